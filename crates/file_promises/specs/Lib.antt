pub mod Calls
pub mod Kept
pub mod Listed
