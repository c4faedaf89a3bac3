pub mod CellFacts
pub mod TableFacts
pub mod RowFacts
pub mod ColumnFacts
pub mod MergeFacts
pub mod AlikeFacts
