pub mod Weights
pub mod Keeps
pub mod Whole
