pub mod Named
pub mod Converted
pub mod Itself
pub mod Faults
pub mod Converting
