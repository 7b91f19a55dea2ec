pub mod Keying
pub mod Eleven
