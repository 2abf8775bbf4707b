pub mod Clauses
pub mod Lengths
pub mod Opened
pub mod Within
