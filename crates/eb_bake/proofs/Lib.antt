-- What the proofs of this crate share.
pub mod RunFacts
pub mod KeptSchema
pub mod Rebakings
