pub mod Among
pub mod Outcomes
