pub mod Same
pub mod States
pub mod Plans
pub mod Flats
pub mod Achieving
pub mod Readers
pub mod Laws
