pub mod Bits
pub mod Readings
pub mod Sizes
pub mod Spaces
pub mod Laws
