-- The flat task of a bound task, or the first fault, and the flat task of a task. This project's own.
use Rattle.std.specs.Prelude.{◌≡◌, Result, Ok}
use Rattle.np_model.specs.declared.task.TaskParts.{TaskParts}
use Rattle.np_linear.specs.Answers.{and_then}
use Rattle.np_bind.specs.declared.bound.BoundParts.{BoundParts}
use Rattle.np_bind.specs.Binding.{bind_task}
use Rattle.np_flat.specs.declared.parts.Parts.{Parts}
use Rattle.np_scale.specs.declared.fault.ScaleFault.{ScaleFault}
use Rattle.np_scale.specs.FlatOf.{flat_of}
use Rattle.np_scale.specs.Limits.{subgoals_within_limits}

-- the flat task, where the bound task is within all limits
unfoldable pub scale_task : BoundParts → Result Parts ScaleFault
scale_task bound = and_then (subgoals_within_limits bound) (λ _. Ok (flat_of bound))

-- the flat task of a task: that of its bound task
pub record IsFlatTaskOf (task : TaskParts) (flat : Parts) : Type 0 where
  pub bound : BoundParts
  pub binds : bind_task task ≡ Ok bound
  pub scales : scale_task bound ≡ Ok flat
