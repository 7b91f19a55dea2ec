pub mod Agreement
pub mod Matching
pub mod Paths
pub mod PathOrder
pub mod Sorting
pub mod Examples
