pub mod Moving
pub mod Turning
pub mod Serving
