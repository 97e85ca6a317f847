use Rattle.std.proofs.Common.{◌≡◌, ◌++◌, take}
use Rattle.std.specs.List.{flat_map}
use Rattle.np_cert.specs.Layout.{proof_text}
use Rattle.np_cert.proofs.print.proofs.push_proofs.Given as goal

abbrev pub invariant-loop-proof : goal.invariant-loop-proof
invariant-loop-proof l = l.text.items ≡ l.initial.text.items ++ flat_map proof_text (take l.proof-index l.proofs)
