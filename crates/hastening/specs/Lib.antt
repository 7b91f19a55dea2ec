pub mod Chosen
pub mod Lowerings
pub mod Ready
