pub mod Kinds
pub mod Layout
pub mod Words
