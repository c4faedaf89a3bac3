-- What the proofs of this crate share.
pub mod GiftFacts
pub mod LowestFacts
