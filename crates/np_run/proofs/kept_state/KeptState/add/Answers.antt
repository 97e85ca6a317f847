use Rattle.std.proofs.Common.{refl}
use Rattle.np_model.proofs.Same.{same_state}
use Rattle.np_run.proofs.KeptStates.{set_more}
use Rattle.np_run.proofs.kept_state.KeptState.add.Goals as goal

pub returns : goal.returns
returns c = same_state _ _ (set_more c.args.self.now.atoms c.insert.new.self c.args.atom c.in_ok-insert.ensures.updates.0) (λ t. refl)
