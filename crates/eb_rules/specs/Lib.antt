-- What the contracts of this crate say.
pub mod Shapes
pub mod Bakers
pub mod Scopes
pub mod Typing
pub mod Statements
pub mod Queries
pub mod Jobs
pub mod Meanings
pub mod Following
pub mod Holds
pub mod Kept
pub mod Says
