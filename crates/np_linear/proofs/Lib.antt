pub mod Chains
pub mod LinearValues
pub mod Readings
pub mod Places
pub mod Parts
pub mod Distinct
pub mod LinearLaws
