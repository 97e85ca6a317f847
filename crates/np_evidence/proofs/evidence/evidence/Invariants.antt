use Rattle.std.proofs.Common.{◌≡◌, take}
use Rattle.np_evidence.specs.Entries.{entries_of}
use Rattle.np_evidence.proofs.Texts.{text_up_to}
use Rattle.np_evidence.proofs.evidence.evidence.Given as goal

abbrev pub invariant-loop-number : goal.invariant-loop-number
invariant-loop-number l = l.text.items ≡ text_up_to l.claim (entries_of l.claim (take l.number l.tree.states) (take l.number l.tree.nodes.items))
