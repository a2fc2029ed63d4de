pub mod Refusals
pub mod Machine
pub mod Parents
pub mod Bytes
pub mod Start
pub mod Finish
