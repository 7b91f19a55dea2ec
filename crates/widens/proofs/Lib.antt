pub mod Putting
pub mod Widening
pub mod Outcomes
pub mod Examples
