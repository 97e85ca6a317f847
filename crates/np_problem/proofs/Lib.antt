pub mod FactLexing
pub mod Facts
pub mod OneRead
pub mod ProblemLaws
pub mod SectionLexing
pub mod Sections
