pub mod Closes
pub mod Achieved
pub mod Works
pub mod Watches
pub mod Files
