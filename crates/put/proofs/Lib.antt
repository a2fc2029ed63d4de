pub mod Append
pub mod Clears
pub mod Equality
pub mod Parts
pub mod Strides
