-- What the contracts of this crate say.
pub mod Keys
pub mod Entities
pub mod Walks
pub mod Sums
pub mod Sights
pub mod Copying
pub mod Runs
pub mod Ran
pub mod Reruns
