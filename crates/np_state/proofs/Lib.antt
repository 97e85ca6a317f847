pub mod Distinct
pub mod StateEquality
pub mod Numbers
pub mod Rows
