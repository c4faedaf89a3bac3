-- What the contracts of this crate say.
pub mod Tokens
pub mod Input
pub mod Reading
pub mod Blocks
pub mod Spelled
pub mod Grammar
pub mod Counts
pub mod Refusing
pub mod Spelling
pub mod Printing
pub mod Passes
pub mod OneToken
