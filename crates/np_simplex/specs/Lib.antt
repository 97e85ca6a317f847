pub mod Tableau
pub mod Answers
pub mod Widths
pub mod Views
pub mod Packed
pub mod Faults
pub mod Promises
pub mod Hard
