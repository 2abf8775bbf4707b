pub mod Opens
pub mod Parts
