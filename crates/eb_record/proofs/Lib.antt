-- What the proofs of this crate share.
pub mod LookOrder
pub mod UnderFacts
pub mod IndexFacts
pub mod FoundFacts
