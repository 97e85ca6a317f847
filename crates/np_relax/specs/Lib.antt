pub mod Closed
pub mod Needing
pub mod Work
