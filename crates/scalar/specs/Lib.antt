pub mod Digits
pub mod Truth
pub mod Whole
pub mod Float
pub mod Kind
pub mod Numbers
