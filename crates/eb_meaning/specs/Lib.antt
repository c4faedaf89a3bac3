-- What the contracts of this crate say.
pub mod Asks
pub mod Operators
pub mod Fields
pub mod Meaning
pub mod Statements
