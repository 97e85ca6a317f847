pub mod Faults
pub mod Layout
pub mod Numbers
pub mod PlanForm
pub mod PlanText
pub mod Plans
