use Rattle.std.proofs.Common.{not, sym, subst}
use Rattle.np_flat.specs.Flats.{IsAscending}
use Rattle.np_flat.specs.States.{has}
use Rattle.np_flat.proofs.Ascending.{ascending_filter}
use Rattle.np_flat.proofs.step.facts_after.Goals as goal

pub put_all-requires : goal.put_all-requires
put_all-requires c = subst IsAscending (sym c.in_ok-after.ensures) (ascending_filter (λ p. not (has c.as_slice.result.now p)) c.args.facts.now c.requires.facts)
