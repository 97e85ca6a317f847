use Rattle.std.proofs.Common.{◌≡◌, drop, []}
use Rattle.np_run.specs.Kept.{kept}
use Rattle.np_run.specs.Changing.{sums_from}
use Rattle.np_run.proofs.changing.sums_of.Given as goal

-- the effects that are left go on from the sums so far
abbrev pub invariant-loop-effect : goal.invariant-loop-effect
invariant-loop-effect l =
    sums_from l.objects (kept l.state) [] l.effects ≡ sums_from l.objects (kept l.state) l.sums (drop l.effect-index l.effects)
