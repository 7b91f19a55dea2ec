pub mod Boxes
pub mod Scanning
pub mod Answering
pub mod Examples
