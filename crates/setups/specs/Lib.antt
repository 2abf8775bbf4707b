pub mod Accepted
pub mod Clearing
pub mod Groups
pub mod Naming
pub mod Refusals
pub mod Sized
pub mod Numbers
pub mod Unread
