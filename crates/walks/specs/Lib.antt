pub mod Walk
pub mod Key
pub mod Member
