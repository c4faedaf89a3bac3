pub mod Listed
pub mod Sorting
pub mod LineFacts
