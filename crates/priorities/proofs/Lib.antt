pub mod Bounding
pub mod Past
pub mod Ruled
