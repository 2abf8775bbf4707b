pub mod Laws
pub mod Pens
pub mod Lines
pub mod Lengths
pub mod Values
pub mod Numbers
pub mod Apart
