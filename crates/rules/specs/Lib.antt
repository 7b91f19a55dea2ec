pub mod Pick
pub mod Refusals
pub mod Answers
pub mod Writes
pub mod Lists
