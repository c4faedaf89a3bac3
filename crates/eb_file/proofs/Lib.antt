pub mod Apart
pub mod Columns
pub mod Members
pub mod NumberRows
pub mod OneSpelling
pub mod PlainImages
pub mod Written
