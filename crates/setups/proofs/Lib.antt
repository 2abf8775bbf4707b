pub mod Accepted
pub mod Chained
pub mod Cleared
pub mod Folded
pub mod Lists
pub mod Names
pub mod Numbers
