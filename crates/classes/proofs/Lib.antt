pub mod Stages
pub mod Rounds
pub mod Owning
pub mod Lone
