pub mod Answers
pub mod AsRust
pub mod Demand2
pub mod RustCuts
pub mod RustDomain
pub mod RustRows
pub mod RustTape
