use Rattle.std.proofs.Common.{string_bytes, ◌≡◌, ◌++◌, take}
use Rattle.std.specs.List.{flat_map}
use Rattle.np_list.specs.ListText.{spaced_number}
use Rattle.np_list.proofs.numbers.push_numbers.Given as goal

abbrev pub invariant-loop-number : goal.invariant-loop-number
invariant-loop-number l = string_bytes l.text ≡ string_bytes l.initial.text ++ flat_map spaced_number (take l.number-index l.numbers)
