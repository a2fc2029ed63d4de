pub mod Operators
pub mod Tree
