-- What the contracts of this crate say.
pub mod Records
pub mod Readers
