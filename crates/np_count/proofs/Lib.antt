pub mod Tests
pub mod Keeps
pub mod Plans
pub mod Weights
pub mod Counts
pub mod Common
pub mod Members
