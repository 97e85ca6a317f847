use Rattle.std.proofs.Common.{◌∙◌, length}
use Rattle.std.proofs.lemmas.Option.{MatchOption-at_none}
use Rattle.np_check.specs.Verdicts.{AreGood, IsVerdict}
use Rattle.np_check.proofs.Faults.{valid_is}
use Rattle.np_check.proofs.check.verdict_of_entries.Goals as goal

pub returns-then-is_claimed : goal.returns-then-is_claimed
returns-then-is_claimed c =
    let task = c.args.flat.now in
    let certificate = c.args.certificate.now in
    let good = MatchOption-at_none (AreGood task certificate (length certificate.entries)) (IsVerdict task certificate) c.in_default.is c.in_ok-fault.ensures in
    valid_is task certificate c.in_ok-first.first (c.in_ok-first.ensures ∙ c.as_slice.ensures) good (c.is_claimed.ensures.0 c.if-is_claimed.true)
