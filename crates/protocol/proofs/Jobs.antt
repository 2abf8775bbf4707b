pub mod Ranks
pub mod Modes
pub mod Changes
