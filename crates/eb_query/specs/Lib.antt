-- What the contracts of this crate say.
pub mod EntityText
pub mod Queries
pub mod Pieces
