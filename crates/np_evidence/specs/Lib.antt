pub mod Certified
pub mod Outcomes
pub mod Entries
pub mod Searches
