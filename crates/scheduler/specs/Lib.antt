pub mod Arriving
pub mod Leaving
pub mod Placed
pub mod PlacedTest
pub mod Changes
