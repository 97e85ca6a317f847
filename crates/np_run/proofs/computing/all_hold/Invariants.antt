use Rattle.std.proofs.Common.{◌≡◌, drop}
use Rattle.np_run.specs.Kept.{kept}
use Rattle.np_run.specs.Computing.{computed_all_hold}
use Rattle.np_run.proofs.computing.all_hold.Given as goal

-- the conditions that are left decide
abbrev pub invariant-loop-cond : goal.invariant-loop-cond
invariant-loop-cond l =
    computed_all_hold l.objects (kept l.state) l.conditions ≡ computed_all_hold l.objects (kept l.state) (drop l.cond-index l.conditions)
