pub mod Naming
pub mod Slots
pub mod Waiting
pub mod Lowers
