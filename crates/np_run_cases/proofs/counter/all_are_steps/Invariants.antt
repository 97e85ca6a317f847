use Rattle.std.proofs.Common.{take}
use Rattle.std.specs.Prelude.{All, IsTrue}
use Rattle.np_model.specs.Steps.{is_step}
use Rattle.np_run_cases.proofs.counter.all_are_steps.Given as goal

abbrev pub invariant-loop-step : goal.invariant-loop-step
invariant-loop-step l = All (λ step. IsTrue (is_step l.task step)) (take l.step-index l.steps)
