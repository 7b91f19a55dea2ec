pub mod Showing
pub mod Reading
pub mod Examples
