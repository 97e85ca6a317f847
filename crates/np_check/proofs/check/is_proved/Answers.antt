use Rattle.std.proofs.Common.{◌≡◌, List, Some, slice_get, sym, ap, ◌∙◌}
use Rattle.np_count.specs.declared.proof.Proof.{Proof}
use Rattle.np_check.proofs.ClaimBounds.{valid_at}
use Rattle.np_check.proofs.check.is_proved.Goals as goal

pub is_met_by-requires-clause-proof : goal.is_met_by-requires-clause-proof
is_met_by-requires-clause-proof c =
    let proofs = c.args.certificate.now.proofs in
    let there : slice_get proofs c.args.number ≡ Some c.in-Some.proof.now = ap (λ (ps : List Proof). slice_get ps c.args.number) (sym c.as_slice.ensures) ∙ c.in-Some.ensures in
    valid_at c.args.flat.now proofs c.args.number c.in-Some.proof.now c.requires.proofs there
