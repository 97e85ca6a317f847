pub mod Scopes
pub mod Uses
pub mod Resolved
pub mod Facts
pub mod TaskOf
pub mod Rules
pub mod Typing
pub mod LookUps
