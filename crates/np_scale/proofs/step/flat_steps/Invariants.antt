use Rattle.std.proofs.Common.{◌≡◌, take, drop}
use Rattle.np_scale.specs.Limits.{checked_steps}
use Rattle.np_scale.specs.Code.{AreStepsOf}
use Rattle.np_scale.proofs.step.flat_steps.Given as goal

abbrev pub invariant-loop-step : goal.invariant-loop-step
invariant-loop-step l = record {
  known : checked_steps l.tables.facts l.tables.values l.tables.unit l.subgoals (drop l.step-index l.steps)
      ≡ checked_steps l.tables.facts l.tables.values l.tables.unit l.initial.subgoals l.steps;
  steps : AreStepsOf l.tables.facts l.tables.values l.tables.unit l.subgoals (take l.step-index l.steps) l.flat;
}
