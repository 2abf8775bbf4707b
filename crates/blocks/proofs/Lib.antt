pub mod Limits
pub mod Numbers
pub mod OneByte
pub mod Ranges
mod PlainSums
pub mod Sums
pub mod Verdicts
