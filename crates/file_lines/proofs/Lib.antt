pub mod Told
pub mod Room
