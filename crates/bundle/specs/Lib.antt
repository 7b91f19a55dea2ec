pub mod Shown
pub mod Readers
pub mod Reading
