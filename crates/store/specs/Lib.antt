pub mod Layout
pub mod Rows
pub mod Sound
