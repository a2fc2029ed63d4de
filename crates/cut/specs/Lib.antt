pub mod Blanks
pub mod Runs
pub mod Quotes
pub mod Scalars
pub mod Lanes
pub mod Marks
