pub mod LoweringTask
pub mod GraphPlans
