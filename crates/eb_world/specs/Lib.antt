-- What the contracts of this crate say.
pub mod Worlds
pub mod Tables
pub mod Beings
