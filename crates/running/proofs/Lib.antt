pub mod Held
pub mod Same
pub mod SameRuns
pub mod Steps
pub mod Sentences
pub mod Unique
pub mod Examples
