use Rattle.np_frac.proofs.OrderedField.{ordered_field}
use Rattle.np_frac.proofs.laws.ordered_field.Goals as goal

pub returns : goal.returns
returns c = ordered_field
