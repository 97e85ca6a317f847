use Rattle.std.proofs.Common.{◌∙◌}
use Rattle.std.proofs.lemmas.Result.{on_ok_weaker}
use Rattle.np_run.specs.Kept.{kept}
use Rattle.np_run.proofs.Atoms.{atoms_after}
use Rattle.np_run.proofs.changing.change_atoms.Goals as goal

pub returns : goal.returns
returns c =
    on_ok_weaker c.add_all.result
    (λ e. e ∙ rw (c.in_ok-delete_all.ensures, c.as_slice.ensures, c.as_slice-2.ensures) (atoms_after c.args.action.now c.args.objects.now (kept c.args.state.now)))
    c.add_all.ensures
