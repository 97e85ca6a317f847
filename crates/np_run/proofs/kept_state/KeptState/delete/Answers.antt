use Rattle.std.proofs.Common.{refl}
use Rattle.np_model.proofs.Same.{same_state}
use Rattle.np_run.proofs.KeptStates.{set_less}
use Rattle.np_run.proofs.kept_state.KeptState.delete.Goals as goal

pub returns : goal.returns
returns c = same_state _ _ (set_less c.args.self.now.atoms c.swap_remove.new.self c.args.atom.now c.swap_remove.ensures.updates.0) (λ t. refl)
