pub mod Dropped
pub mod Lowest
pub mod Least
pub mod Counts
pub mod Words
pub mod Mended
pub mod Entries
