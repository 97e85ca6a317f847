-- Why a task has no flat task.
use Rattle.std.specs.Prelude.{◌≡◌, ℕ, ◌⊎◌, ⊤, List, ◌++◌, Option, None, Some, Ok, Err, codes}
use Rattle.np_model.specs.declared.task.TaskParts.{TaskParts}
use Rattle.np_bind.specs.declared.bound.BoundParts.{BoundParts}
use Rattle.np_bind.specs.declared.bound.BindFault.{BindFault}
use Rattle.np_bind.specs.declared.bound.BindFault.TheVariants as bind
use Rattle.np_bind.specs.declared.bound.Spot.{Spot}
use Rattle.np_bind.specs.declared.bound.Spot.TheVariants as spot
use Rattle.np_bind.specs.Binding.{bind_task}
use Rattle.np_scale.specs.declared.fault.ScaleFault.{ScaleFault}
use Rattle.np_scale.specs.declared.fault.ScaleFault.TheVariants as scale
use Rattle.np_scale.specs.Scaling.{scale_task}
use Rattle.np_list.specs.Names.{term_text, step_text}
use Rattle.np_answers.specs.declared.answer.refusal.Refusal.{Refusal}
use Rattle.np_answers.specs.declared.answer.refusal.Refusal.TheVariants.{Task, AtSpot}
use Rattle.np_answers.specs.declared.answer.refusal.TaskReason.TheVariants.{TooManyBindings, TooManySteps, TooManyFacts, TooManyValues, TooManySubgoals, UnitWide, GoalUndefined, MetricUndefined}
use Rattle.np_answers.specs.declared.answer.refusal.SpotReason.TheVariants.{NotLinear, NumberWide, FormLong, CostNegative, CostNotWhole, CostWide}
use Rattle.np_answers.specs.declared.answer.Answer.{Answer}
use Rattle.np_answers.specs.declared.answer.Answer.TheVariants.{Refused, OutOfMemory}

-- a spot by the names of the task
abbrev pub spot_text : TaskParts → Spot → List ℕ
spot_text task (spot.Step step) = codes "step " ++ step_text task step
spot_text task (spot.Value term) = codes "value " ++ term_text task term
spot_text task spot.Goal = codes "goal"
spot_text task spot.Metric = codes "metric"

-- the refusal for a fault of binding; none where memory ran out
abbrev pub bind_refusal : TaskParts → BindFault → Option Refusal
bind_refusal task bind.TooManyTuples = Some (Task TooManyBindings)
bind_refusal task bind.TooManySteps = Some (Task TooManySteps)
bind_refusal task (bind.NotLinear at) = Some (AtSpot NotLinear (spot_text task at))
bind_refusal task bind.GoalUndefined = Some (Task GoalUndefined)
bind_refusal task bind.MetricUndefined = Some (Task MetricUndefined)
bind_refusal task (bind.NumberWide at) = Some (AtSpot NumberWide (spot_text task at))
bind_refusal task bind.Memory = None

-- the refusal for a fault of scaling; none where memory ran out
abbrev pub scale_refusal : TaskParts → ScaleFault → Option Refusal
scale_refusal task scale.TooManyFacts = Some (Task TooManyFacts)
scale_refusal task scale.TooManyValues = Some (Task TooManyValues)
scale_refusal task scale.TooManySubgoals = Some (Task TooManySubgoals)
scale_refusal task scale.UnitWide = Some (Task UnitWide)
scale_refusal task (scale.NumberWide at) = Some (AtSpot NumberWide (spot_text task at))
scale_refusal task (scale.FormLong at) = Some (AtSpot FormLong (spot_text task at))
scale_refusal task (scale.CostNegative step) = Some (AtSpot CostNegative (spot_text task (spot.Step step)))
scale_refusal task (scale.CostNotWhole step) = Some (AtSpot CostNotWhole (spot_text task (spot.Step step)))
scale_refusal task (scale.CostWide step) = Some (AtSpot CostWide (spot_text task (spot.Step step)))
scale_refusal task scale.Memory = None

-- the task isn't bound, and the refusal is for its first fault
pub record IsUnbound (task : TaskParts) (refusal : Refusal) : Type 0 where
  pub fault : BindFault
  pub unbound : bind_task task ≡ Err fault
  pub refusal_is : bind_refusal task fault ≡ Some refusal

-- the task is bound but isn't scaled, and the refusal is for its first fault
pub record IsUnscaled (task : TaskParts) (refusal : Refusal) : Type 0 where
  pub bound : BoundParts
  pub bound_is : bind_task task ≡ Ok bound
  pub fault : ScaleFault
  pub unscaled : scale_task bound ≡ Err fault
  pub refusal_is : scale_refusal task fault ≡ Some refusal

-- why a task has no flat task
abbrev pub IsTaskReason : TaskParts → Refusal → Type 0
IsTaskReason task refusal = IsUnbound task refusal ⊎ IsUnscaled task refusal

-- an answer where a task has no flat task
abbrev pub IsNotFlat : TaskParts → Answer → Type 0
IsNotFlat task (Refused refusal) = IsTaskReason task refusal
IsNotFlat task OutOfMemory = ⊤
IsNotFlat task answer = ⊥
