pub mod Joins
pub mod Preparing
pub mod Filling
pub mod Choices
pub mod Done
pub mod Outcomes
