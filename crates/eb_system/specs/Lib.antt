-- What the contracts of this crate say.
pub mod Matching
pub mod Totals
pub mod Wanted
pub mod Tables
pub mod Sights
pub mod Stages
pub mod Staged
