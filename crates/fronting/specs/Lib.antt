pub mod Together
pub mod Front
