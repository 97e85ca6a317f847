pub mod Answers
pub mod Linears
pub mod Laws
