pub mod RequestFacts
pub mod DumpFacts
pub mod KeptFacts
pub mod OpeningFacts
pub mod SectionFacts
pub mod RowFacts
