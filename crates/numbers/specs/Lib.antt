pub mod Limits
pub mod Refusals
pub mod Rows
pub mod Numbered
pub mod Answers
