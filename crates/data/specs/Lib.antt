pub mod Bytes
pub mod Classes
pub mod Pairs
pub mod Reasons
