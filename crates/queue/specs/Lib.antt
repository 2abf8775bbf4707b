pub mod Limits
pub mod Waiting
pub mod Tidy
