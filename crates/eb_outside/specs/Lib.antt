pub mod Calls
pub mod Causes
pub mod InMemory
pub mod Shelves
pub mod Streams
