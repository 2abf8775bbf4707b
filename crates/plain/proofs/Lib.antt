pub mod Sorted
pub mod Readings
pub mod Placing
pub mod Sessions
pub mod Agreement
pub mod Parts
pub mod Apart
