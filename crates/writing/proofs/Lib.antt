pub mod Counts
pub mod Inputs
pub mod Clauses
pub mod Putting
pub mod After
pub mod Stored
pub mod Same
pub mod Examples
