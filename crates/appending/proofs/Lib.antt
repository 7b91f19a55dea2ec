pub mod Arranging
pub mod Placing
pub mod Reading
pub mod Writing
pub mod Outcomes
