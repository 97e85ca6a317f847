use Rattle.std.proofs.Common.{◌≡◌, ◌++◌, take}
use Rattle.std.specs.List.{flat_map}
use Rattle.np_cert.specs.Layout.{natural_text}
use Rattle.np_cert.proofs.print.words.push_facts.Given as goal

abbrev pub invariant-loop-fact : goal.invariant-loop-fact
invariant-loop-fact l = l.text.items ≡ l.initial.text.items ++ flat_map natural_text (take l.fact-index l.facts)
