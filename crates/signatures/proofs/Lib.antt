pub mod Values
pub mod Zeros
