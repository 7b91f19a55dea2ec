pub mod Results
pub mod Values
pub mod Run
