pub mod Rising
pub mod Result
pub mod Convert
