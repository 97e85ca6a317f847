pub mod Cells
pub mod CellLaws
pub mod Words
pub mod Kept
pub mod Bits
pub mod StateValues
pub mod States
pub mod Interning
