pub mod Bits
pub mod Numbers
pub mod SubgoalsHold
pub mod Readings
pub mod Runs
pub mod Steps
pub mod FlatStates
