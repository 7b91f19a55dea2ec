pub mod Words
pub mod Rewired
pub mod Duties
