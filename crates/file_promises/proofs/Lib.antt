pub mod Spells
pub mod Fields
pub mod Answers
pub mod Kept
pub mod Listed
pub mod Contracts
