pub mod Looking
pub mod Filling
pub mod Answering
