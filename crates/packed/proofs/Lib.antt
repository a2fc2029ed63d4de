pub mod Packing
pub mod Spelling
