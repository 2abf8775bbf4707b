pub mod Check
pub mod CheckCases
pub mod OneByte
pub mod Sizes
pub mod Verdicts
pub mod Kinds
pub mod Numbers
pub mod Files
