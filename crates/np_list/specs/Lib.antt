pub mod ListText
pub mod Names
