pub mod Parts
pub mod Stopping
pub mod Agreeing
pub mod Summing
pub mod Atoms
pub mod Going
pub mod Outcomes
pub mod KeptStates
