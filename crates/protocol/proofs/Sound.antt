pub mod Statements
pub mod Begin
pub mod Reflect
