use Rattle.std.proofs.Common.{string_bytes, ◌≡◌, ◌++◌, take}
use Rattle.std.specs.List.{flat_map}
use Rattle.np_list.specs.ListText.{change_text}
use Rattle.np_list.proofs.steps.push_each_change.Given as goal

abbrev pub invariant-loop-change : goal.invariant-loop-change
invariant-loop-change l = string_bytes l.text ≡ string_bytes l.initial.text ++ flat_map change_text (take l.change-index l.changes)
