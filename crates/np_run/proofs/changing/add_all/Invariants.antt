use Rattle.std.proofs.Common.{◌≡◌, drop}
use Rattle.np_run.specs.Kept.{kept}
use Rattle.np_run.specs.ChangeSteps.{all_added}
use Rattle.np_run.proofs.changing.add_all.Given as goal

abbrev pub invariant-loop-effect : goal.invariant-loop-effect
invariant-loop-effect l =
    all_added l.objects (kept l.fn.state) l.effects ≡ all_added l.objects (kept l.state) (drop l.effect-index l.effects)
