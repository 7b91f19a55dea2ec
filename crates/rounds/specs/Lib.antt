pub mod Classes
pub mod Rounds
pub mod Buckets
pub mod Ending
pub mod Chains
pub mod Placing
pub mod Settling
