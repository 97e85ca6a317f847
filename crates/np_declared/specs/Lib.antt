pub mod Types
pub mod TypeRules
pub mod Symbols
pub mod Rules
pub mod ScopeNames
pub mod LookUps
pub mod Ranks
