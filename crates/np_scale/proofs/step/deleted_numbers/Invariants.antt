use Rattle.std.proofs.Common.{◌≡◌, take, not, filter}
use Rattle.np_model.specs.States.{is_among}
use Rattle.np_flat.specs.Flats.{IsAscending}
use Rattle.np_scale.specs.Code.{facts_in}
use Rattle.np_scale.proofs.step.deleted_numbers.Given as goal

abbrev pub invariant-loop-atom : goal.invariant-loop-atom
invariant-loop-atom l = record {
  put : l.numbers.items ≡ facts_in l.facts (filter (λ a. not (is_among l.adds a)) (take l.atom-index l.deletes));
  ascending : IsAscending l.numbers.items;
}
