pub mod CountFacts
pub mod FaultFacts
pub mod ToldFacts
