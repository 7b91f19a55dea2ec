pub mod Marks
pub mod Meets
