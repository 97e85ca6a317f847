-- What a valid certificate says of every plan.
use Rattle.std.specs.Prelude.{ℕ, List, IsTrue}
use Rattle.np_flat.specs.declared.parts.Parts.{Parts}
use Rattle.np_flat.specs.Flats.{IsFlat}
use Rattle.np_flat.specs.Plans.{Leads, cost_sum}
use Rattle.np_cert.specs.declared.certificate.Limit.{Limit}
use Rattle.np_cert.specs.declared.certificate.Limit.TheVariants.{Number}
use Rattle.np_cert.specs.declared.certificate.Certificate.{Certificate}
use Rattle.np_cert.specs.Valid.{at_most, IsValid}

-- every list of steps that leads from the start to the goal, of any length, costs at least the limit; where the limit is that there is
-- no plan, no list does
abbrev pub Bounds : Parts → Limit → Type 0
Bounds task limit = (numbers : List ℕ) → Leads task task.start numbers → IsTrue (at_most limit (Number (cost_sum task numbers)))

-- a valid certificate's claim bounds every plan
abbrev pub ClaimBounds : Type 0
ClaimBounds = (task : Parts) (c : Certificate) → IsFlat task → IsValid task c → Bounds task c.claim
