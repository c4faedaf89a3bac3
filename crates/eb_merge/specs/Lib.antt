-- What the contracts of this crate say.
pub mod Standing
pub mod Objects
