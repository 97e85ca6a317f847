pub mod Blanks
pub mod Decimals
pub mod FirstToken
pub mod Lexers
pub mod Lines
pub mod LongestToken
pub mod Tokens
