use Rattle.std.proofs.Common.{◌≡◌, drop}
use Rattle.np_run.specs.Kept.{kept}
use Rattle.np_run.specs.ChangeSteps.{all_deleted}
use Rattle.np_run.proofs.changing.delete_all.Given as goal

abbrev pub invariant-loop-effect : goal.invariant-loop-effect
invariant-loop-effect l =
    all_deleted l.objects (kept l.fn.state) l.effects ≡ all_deleted l.objects (kept l.state) (drop l.effect-index l.effects)
