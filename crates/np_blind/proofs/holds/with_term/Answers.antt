use Rattle.np_flat.proofs.Terms.{term_is}
use Rattle.np_blind.proofs.holds.with_term.Goals as goal

pub returns : goal.returns
returns c = term_is c.args.sum c.args.coefficient c.args.value c.ranges.sum c.ranges.coefficient c.ranges.value c.requires.sum c.requires.coefficient c.requires.value
