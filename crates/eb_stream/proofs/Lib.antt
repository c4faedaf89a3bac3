pub mod LoadFacts
pub mod SectionFacts
