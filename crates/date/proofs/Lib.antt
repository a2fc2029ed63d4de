pub mod Months
pub mod Days
pub mod Ranges
pub mod Shapes
pub mod Readings
