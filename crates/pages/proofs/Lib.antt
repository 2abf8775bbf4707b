pub mod Answers
pub mod Files
pub mod Openings
pub mod Parts
pub mod Printed
pub mod Records
