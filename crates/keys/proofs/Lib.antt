pub mod Stands
pub mod Fields
pub mod Rows
pub mod Readback
pub mod Rewritten
pub mod SameBytes
