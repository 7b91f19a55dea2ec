pub mod Reading
pub mod Straying
pub mod Ticks
pub mod Runs
