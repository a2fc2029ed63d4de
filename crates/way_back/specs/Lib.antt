pub mod Plain
pub mod Accepted
pub mod Stable
pub mod Cases
pub mod ByContract
pub mod Room
pub mod Unread
