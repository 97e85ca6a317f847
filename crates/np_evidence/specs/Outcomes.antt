-- What a search for a cheapest plan of a flat task comes to.
use Rattle.std.specs.Prelude.{◌≡◌, ℕ, ◌≤◌, List, length}
use Rattle.np_flat.specs.declared.parts.Parts.{Parts}
use Rattle.np_flat.specs.Plans.{cost_sum, Leads}
use Rattle.np_cert.specs.declared.certificate.Limit.{Limit}
use Rattle.np_cert.specs.declared.certificate.Limit.TheVariants.{Number, Absent}
use Rattle.np_cert.specs.declared.certificate.Entry.{Entry}
use Rattle.np_cert.specs.declared.certificate.Certificate.{Certificate}
use Rattle.np_evidence.specs.declared.outcome.End.{End}
use Rattle.np_evidence.specs.declared.outcome.End.TheVariants.{Plan, NoPlan, Spent}
use Rattle.np_evidence.specs.declared.outcome.Outcome.{Outcome}
use Rattle.np_evidence.specs.Certified.{NoPlanBelow, IsCertifiedBy, IsSpentOn}

-- the steps by number are a cheapest plan of this cost, and no more than the budget
pub record IsCheapest (task : Parts) (nodes : ℕ) (numbers : List ℕ) (cost : ℕ) : Type 0 where
  pub leads : Leads task task.start numbers
  pub costs : cost ≡ cost_sum task numbers
  pub none_cheaper : NoPlanBelow task cost
  pub few : length numbers ≤ nodes

-- no steps lead to the goal
abbrev pub HasNoPlan : Parts → Type 0
HasNoPlan task = (numbers : List ℕ) → Leads task task.start numbers → ⊥

-- what the certificate claims after such an end
abbrev pub claim_after : End → Limit
claim_after (Plan numbers cost) = Number cost
claim_after NoPlan = Absent
claim_after (Spent bound) = Number bound

-- what an end of a search with this budget says of a flat task, where these are the entries of its certificate
abbrev pub IsTrueEnd : Parts → ℕ → List Entry → End → Type 0
IsTrueEnd task nodes entries (Plan numbers cost) = IsCheapest task nodes numbers.items cost
IsTrueEnd task nodes entries NoPlan = HasNoPlan task
IsTrueEnd task nodes entries (Spent bound) = NoPlanBelow task bound × IsSpentOn task nodes bound entries

-- the end is true of the flat task, and the text is a certificate of it
pub record IsOutcomeOf (task : Parts) (nodes : ℕ) (outcome : Outcome) : Type 0 where
  pub certificate : Certificate
  pub ends : IsTrueEnd task nodes certificate.entries outcome.end
  pub certified : IsCertifiedBy task nodes (claim_after outcome.end) outcome.text.items certificate
