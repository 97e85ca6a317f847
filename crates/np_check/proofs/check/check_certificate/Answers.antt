use Rattle.std.proofs.Common.{subst}
use Rattle.np_check.specs.Verdicts.{IsVerdict}
use Rattle.np_check.proofs.ClaimBounds.{claim_bounds}
use Rattle.np_check.proofs.check.check_certificate.Goals as goal

pub returns-in-Ok-clause-bounds : goal.returns-in-Ok-clause-bounds
returns-in-Ok-clause-bounds c holds = claim_bounds c.args.flat.now c.args.certificate.now c.parts.ensures.kept (subst (IsVerdict c.args.flat.now c.args.certificate.now) holds c.in-Ok.ensures)
