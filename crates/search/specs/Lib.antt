pub mod Words
pub mod Below
pub mod First
pub mod Best
pub mod Table
pub mod Texts
pub mod Views
