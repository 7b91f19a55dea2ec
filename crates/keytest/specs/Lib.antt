pub mod Order
pub mod Asked
