use Rattle.np_check.proofs.ClaimBounds.{claim_bounds}
use Rattle.np_check.proofs.laws.claim_bounds.Goals as goal

pub returns : goal.returns
returns c = claim_bounds
