pub mod Arguments
pub mod Requests
pub mod Runs
pub mod Signed
pub mod There
pub mod Fits
pub mod Examples
