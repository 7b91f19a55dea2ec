pub mod Rounds
pub mod Chains
pub mod Buckets
pub mod Ending
pub mod Placing
pub mod Settling
