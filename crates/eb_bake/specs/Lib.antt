-- What the contracts of this crate say.
pub mod Baking
pub mod Recalled
pub mod IssueTexts
pub mod Changed
