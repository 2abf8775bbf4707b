pub mod Holders
pub mod Writing
