pub mod Refusals
pub mod Answers
pub mod Tested
pub mod Writes
pub mod Lists
