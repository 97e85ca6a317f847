pub mod FactForm
pub mod FactText
pub mod ProblemForm
pub mod ProblemText
pub mod Problems
