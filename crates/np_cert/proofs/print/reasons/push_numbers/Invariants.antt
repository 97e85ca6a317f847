use Rattle.std.proofs.Common.{◌≡◌, ◌++◌, take}
use Rattle.std.specs.List.{flat_map}
use Rattle.np_cert.specs.Layout.{number_text}
use Rattle.np_cert.proofs.print.reasons.push_numbers.Given as goal

abbrev pub invariant-loop-numbered : goal.invariant-loop-numbered
invariant-loop-numbered l = l.text.items ≡ l.initial.text.items ++ flat_map number_text (take l.numbered-index l.numbers)
