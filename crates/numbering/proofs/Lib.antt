pub mod Counting
pub mod Quotient
