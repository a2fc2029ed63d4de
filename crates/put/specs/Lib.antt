pub mod Append
pub mod Equal
pub mod Parts
