pub mod SortedLists
pub mod KeysInOrder
mod SumFacts
mod RunLists
pub mod RunFacts
pub mod RunsAlike
pub mod RunKeys
pub mod Touching
