-- What the certificate of a search over a flat task says. What an entry by expansion is, and this way of writing it, are this project's own.
use Rattle.std.specs.Prelude.{◌≡◌, ℕ, ◌-◌, ◌≤◌, ◌<◌, false, List, length, map, All, Contains}
use Rattle.np_flat.specs.declared.state.FlatState.{FlatState}
use Rattle.np_flat.specs.declared.parts.Parts.{Parts}
use Rattle.np_flat.specs.States.{is_goal}
use Rattle.np_flat.specs.Plans.{cost_sum, Leads, Reaches}
use Rattle.np_cert.specs.declared.certificate.Limit.{Limit}
use Rattle.np_cert.specs.declared.certificate.Limit.TheVariants.{Number, Absent}
use Rattle.np_cert.specs.declared.certificate.Entry.{Entry}
use Rattle.np_cert.specs.declared.certificate.Certificate.{Certificate}
use Rattle.np_cert.specs.Text.{Spells, IsThin}
use Rattle.np_cert.specs.Layout.{certificate_text}
use Rattle.np_cert.specs.Valid.{IsValid}

-- each plan of the flat task costs at least this
abbrev pub NoPlanBelow : Parts → ℕ → Type 0
NoPlanBelow task cost = (numbers : List ℕ) → Leads task task.start numbers → cost ≤ cost_sum task numbers

-- what a cost leaves of a claim; no plan stays no plan
abbrev pub less : Limit → ℕ → Limit
less (Number claim) cost = Number (claim - cost)
less Absent cost = Absent

-- the entry of an expanded state: it isn't a goal, and a run leads to it whose cost is at most that of every plan; its bound is what the cost
-- leaves of the claim
pub record IsExpandedEntry (task : Parts) (claim : Limit) (e : Entry) : Type 0 where
  pub cost : ℕ
  pub reached : Reaches task e.state cost
  pub due : NoPlanBelow task cost
  pub no_goal : is_goal task e.state ≡ false
  pub left : e.bound ≡ less claim cost

-- the bytes are the printed text of this certificate, which has the claim and is valid for the flat task; all of its entries are by expansion,
-- and at most as many as the budget
pub record IsCertifiedBy (task : Parts) (nodes : ℕ) (claim : Limit) (bytes : List ℕ) (c : Certificate) : Type 0 where
  pub spelled : Spells bytes c
  pub layout : bytes ≡ certificate_text c
  pub claim_is : c.claim ≡ claim
  pub valid : IsValid task c
  pub thin : IsThin c
  pub expanded : All (IsExpandedEntry task claim) c.entries
  pub few : length c.entries ≤ nodes

-- the bytes are a certificate with the claim
pub record IsCertified (task : Parts) (nodes : ℕ) (claim : Limit) (bytes : List ℕ) : Type 0 where
  pub certificate : Certificate
  pub by : IsCertifiedBy task nodes claim bytes certificate

-- the entries are as many as the budget; a further state that isn't a goal has none, and is reached at no more than the bound; and each list
-- that holds every state that can be reached is longer than the budget
pub record IsSpentOn (task : Parts) (nodes bound : ℕ) (entries : List Entry) : Type 0 where
  pub count : length entries ≡ nodes
  pub further : FlatState
  pub further_cost : ℕ
  pub further_reached : Reaches task further further_cost
  pub further_near : further_cost ≤ bound
  pub further_new : Contains (map (λ e. e.state) entries) further → ⊥
  pub further_no_goal : is_goal task further ≡ false
  pub no_small_space : (all : List FlatState) → ((s : FlatState) (cost : ℕ) → Reaches task s cost → Contains all s) → nodes < length all
