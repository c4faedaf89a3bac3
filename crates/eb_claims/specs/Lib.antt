-- What the contracts of this crate say.
pub mod Claiming
pub mod Seats
