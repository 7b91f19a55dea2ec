pub mod Meeting
pub mod Reaching
