-- What the recorder of the tests records.
pub mod Notes
