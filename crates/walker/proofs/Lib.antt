pub mod Marks
pub mod Visits
