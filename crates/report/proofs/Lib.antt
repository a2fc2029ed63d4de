pub mod Digits
pub mod Lines
pub mod Hexes
pub mod Decimal
pub mod Room
pub mod Lengths
