pub mod Entries
pub mod InNaming
