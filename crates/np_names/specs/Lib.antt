pub mod Names
pub mod NameSets
pub mod Faults
pub mod Answers
pub mod Sections
pub mod Declarations
pub mod DeclaredNames
