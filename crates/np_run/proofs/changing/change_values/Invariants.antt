use Rattle.std.proofs.Common.{◌≡◌, drop}
use Rattle.np_run.specs.Kept.{kept}
use Rattle.np_run.specs.Changing.{all_grown}
use Rattle.np_run.proofs.changing.change_values.Given as goal

-- the sums that are left go on from the values so far
abbrev pub invariant-loop-number : goal.invariant-loop-number
invariant-loop-number l = all_grown (kept l.fn.state) l.sums ≡ all_grown (kept l.state) (drop l.number l.sums)
