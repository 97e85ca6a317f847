pub mod ConditionForm
pub mod ConditionText
pub mod EffectForm
pub mod EffectText
