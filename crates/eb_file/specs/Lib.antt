pub mod Ascending
pub mod Images
pub mod Plain
pub mod Spelling
