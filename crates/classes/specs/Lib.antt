pub mod Settled
pub mod Staged
pub mod Own
