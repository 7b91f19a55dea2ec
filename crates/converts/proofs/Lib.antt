pub mod Rising
pub mod Result
pub mod Lengths
pub mod Against
pub mod OneOutcome
