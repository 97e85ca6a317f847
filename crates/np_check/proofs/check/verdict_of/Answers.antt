use Rattle.std.proofs.Common.{All, subst}
use Rattle.std.proofs.lemmas.Option.{MatchOption-at_none}
use Rattle.np_cert.specs.Valid.{IsValidProof}
use Rattle.np_check.specs.Verdicts.{IsBadProof}
use Rattle.np_check.proofs.check.verdict_of.Goals as goal

pub verdict_of_entries-requires : goal.verdict_of_entries-requires
verdict_of_entries-requires c =
    let task = c.args.flat.now in
    let proofs = c.as_slice.result.now in
    subst (All (IsValidProof task)) c.as_slice.ensures
    (MatchOption-at_none (All (IsValidProof task) proofs) (IsBadProof task proofs) c.in_default.is c.first_bad_proof.ensures)
