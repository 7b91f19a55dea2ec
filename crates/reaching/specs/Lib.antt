pub mod Reached
pub mod Meeting
