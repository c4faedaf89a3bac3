pub mod Bytes
pub mod Counts
pub mod Lends
pub mod LendsRange
pub mod LendsTwo
pub mod Memory
