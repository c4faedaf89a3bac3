pub mod Sharing
pub mod Steps
pub mod Parts
pub mod TwoRanges
pub mod Written
