pub mod Placing
pub mod Filling
pub mod Doublings
pub mod Ending
pub mod Answers
pub mod Spotting
pub mod Views
pub mod Examples
