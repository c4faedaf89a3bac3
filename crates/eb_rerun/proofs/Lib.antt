-- What the proofs of this crate share.
pub mod Folded
pub mod Recorded
pub mod Ascending
pub mod NearLists
pub mod Untouched
pub mod NearFacts
pub mod Renewals
