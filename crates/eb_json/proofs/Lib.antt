pub mod FormFacts
pub mod DocumentFacts
pub mod KeyFacts
