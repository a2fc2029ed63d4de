pub mod Sound
pub mod Steps
pub mod Views
pub mod Laws
pub mod Decided
pub mod Onto
