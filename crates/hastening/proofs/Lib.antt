pub mod Hastening
pub mod Lowest
