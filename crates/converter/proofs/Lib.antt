pub mod Converting
