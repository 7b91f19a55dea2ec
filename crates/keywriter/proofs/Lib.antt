pub mod Writes
pub mod Places
pub mod Rows
pub mod Whole
