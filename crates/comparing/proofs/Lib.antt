pub mod Rowwise
pub mod Trees
