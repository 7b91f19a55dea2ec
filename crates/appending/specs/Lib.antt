pub mod Arranged
pub mod Placed
pub mod Asked
