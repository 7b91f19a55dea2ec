pub mod Differing
pub mod Walks
