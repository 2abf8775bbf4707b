pub mod Behind
pub mod Filling
pub mod Made
pub mod Taking
pub mod Words
pub mod Apart
