use Rattle.np_flat.proofs.Moves.{kept_or_achieved}
use Rattle.np_flat.proofs.laws.kept_or_achieved.Goals as goal

pub returns : goal.returns
returns c = kept_or_achieved
