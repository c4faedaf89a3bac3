pub mod Ends
pub mod Requests
pub mod Replies
pub mod Refusals
pub mod Images
pub mod Machine
pub mod Opening
pub mod Folders
