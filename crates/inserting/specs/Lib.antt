pub mod Backed
pub mod Insert
pub mod Behind
