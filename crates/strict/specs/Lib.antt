pub mod Strict
pub mod Judged
