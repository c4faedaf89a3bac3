pub mod FileLists
pub mod Laws
