-- What the proofs of this crate share.
pub mod TotalFacts
pub mod TurnFacts
pub mod TypeFacts
pub mod KeptFacts
pub mod WantFacts
