pub mod Checking
pub mod Looking
pub mod Deciding
pub mod Rounds
pub mod Classes
pub mod Soundness
pub mod Done
