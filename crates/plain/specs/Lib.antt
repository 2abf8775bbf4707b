pub mod Orders
pub mod Engine
pub mod Agreement
pub mod Reading
