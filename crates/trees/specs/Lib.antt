pub mod Graph
pub mod Agreement
pub mod Paths
pub mod PathOrder
pub mod Sorting
