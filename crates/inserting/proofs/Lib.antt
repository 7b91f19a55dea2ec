pub mod Backing
pub mod Inserting
pub mod Sounding
