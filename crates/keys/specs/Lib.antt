pub mod Bytes
pub mod Sheets
