pub mod ClaimBounds
pub mod OneVerdict
pub mod Ascending
pub mod LookUps
pub mod Checks
pub mod Faults
mod StepNumbers
mod PlanRuns
mod OnePlanEnd
pub mod Filing
pub mod Listed
