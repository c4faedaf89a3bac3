-- What the contracts of this crate say.
pub mod Arithmetic
pub mod Digits
pub mod FixedPoint
pub mod Maps
pub mod Names
pub mod Places
pub mod TypeNames
pub mod Room
