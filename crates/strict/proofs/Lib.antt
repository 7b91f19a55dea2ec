pub mod Between
pub mod Judging
pub mod Strictly
pub mod Outcome
pub mod Trees
