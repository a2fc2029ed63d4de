pub mod Layout
pub mod Open
pub mod Files
pub mod Refusals
