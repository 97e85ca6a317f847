pub mod Given
pub mod Laws
pub mod Listed
pub mod Listing
pub mod Lowering
pub mod Tables
pub mod Units
pub mod Waiting
