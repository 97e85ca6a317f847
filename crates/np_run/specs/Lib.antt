pub mod Computing
pub mod Changing
pub mod Taking
pub mod RunAnswers
pub mod ChangeSteps
pub mod Kept
pub mod CodeAnswers
