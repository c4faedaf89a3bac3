-- The laws on calculations.
pub mod Alike
pub mod Noted
pub mod Ended
pub mod Asking
pub mod AskingStatements
