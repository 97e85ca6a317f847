use Rattle.std.proofs.Common.{◌≡◌, ◌+◌, drop}
use Rattle.np_run.specs.Kept.{progress}
use Rattle.np_run.specs.Taking.{run_on}
use Rattle.np_run.proofs.running.run_all.Given as goal

-- the steps that are left go on from how far the run has come
abbrev pub invariant-loop-number : goal.invariant-loop-number
invariant-loop-number l =
    run_on l.task 1 l.steps (progress l.fn.run) ≡ run_on l.task (l.number + 1) (drop l.number l.steps) (progress l.run)
