pub mod Token
pub mod Shape
pub mod Words
pub mod Tape
