pub mod Sorting
pub mod OneOrder
