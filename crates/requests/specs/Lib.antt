pub mod Arguments
pub mod Requests
pub mod Runs
