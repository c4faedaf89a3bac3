pub mod Answering
pub mod Faults
pub mod Runs
pub mod Told
pub mod Words
