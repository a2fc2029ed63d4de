pub mod Runs
pub mod Rests
pub mod Words
pub mod Gathers
pub mod Wholes
pub mod Floats
pub mod Forms
pub mod Powers
