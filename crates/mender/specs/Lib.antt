pub mod Says
pub mod Steps
