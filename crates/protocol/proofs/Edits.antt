pub mod Equations
pub mod Untouched
pub mod Locks
pub mod EmptyPlaces
