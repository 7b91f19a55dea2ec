pub mod Outcomes
pub mod Reading
