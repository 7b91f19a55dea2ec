pub mod Placed
pub mod Jumps
pub mod Told
pub mod Spots
