-- What the contracts of this crate say.
pub mod Recorded
pub mod Again
