pub mod Magnitudes
pub mod Reading
pub mod Clamping
pub mod Means
pub mod Constants
pub mod Sentences
pub mod Extremes
