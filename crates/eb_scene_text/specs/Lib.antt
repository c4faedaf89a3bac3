pub mod Words
pub mod Values
pub mod EditForm
pub mod ProjectForm
pub mod ProjectText
pub mod ReadFaults
