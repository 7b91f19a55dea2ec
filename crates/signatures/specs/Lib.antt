pub mod Inside
pub mod Signed
