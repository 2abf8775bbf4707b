pub mod Tables
pub mod Writing
