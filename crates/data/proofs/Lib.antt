pub mod Cases
pub mod Below
pub mod Boundary
pub mod Pairs
pub mod Told
pub mod Reasons
