pub mod Wires
pub mod Jumps
