pub mod Texts
pub mod Lines
pub mod Buffers
pub mod Pens
pub mod Values
pub mod StateLines
pub mod Numbers
