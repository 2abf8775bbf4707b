pub mod EventBlocks
pub mod Numbers
pub mod RoundTrip
pub mod Sealed
pub mod SetupBlocks
pub mod Written
