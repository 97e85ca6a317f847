use Rattle.std.proofs.Common.{◌≡◌, drop}
use Rattle.std.specs.List.{list_all}
use Rattle.np_bind.specs.Looking.{is_chosen}
use Rattle.np_bind.proofs.looking.are_chosen.Given as goal

abbrev pub invariant-loop-part : goal.invariant-loop-part
invariant-loop-part l = list_all (is_chosen l.count) l.refs ≡ list_all (is_chosen l.count) (drop l.part-index l.refs)
