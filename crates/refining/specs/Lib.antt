pub mod Moved
pub mod Seeking
