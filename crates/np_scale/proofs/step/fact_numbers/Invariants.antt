use Rattle.std.proofs.Common.{◌≡◌, take}
use Rattle.np_flat.specs.Flats.{IsAscending}
use Rattle.np_scale.specs.Code.{facts_in}
use Rattle.np_scale.proofs.step.fact_numbers.Given as goal

abbrev pub invariant-loop-atom : goal.invariant-loop-atom
invariant-loop-atom l = record {
  put : l.numbers.items ≡ facts_in l.facts (take l.atom-index l.atoms);
  ascending : IsAscending l.numbers.items;
}
