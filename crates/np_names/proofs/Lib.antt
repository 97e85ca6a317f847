pub mod Answering
pub mod SectionLaws
pub mod Repeats
pub mod NameSets
pub mod Lists
pub mod DeclarationLaws
pub mod Stepping
