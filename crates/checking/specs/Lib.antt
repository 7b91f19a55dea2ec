pub mod Answers
pub mod Check
pub mod Checked
