-- When an entry is justified, and a certificate valid. These definitions are this project's own.
use Rattle.std.specs.Prelude.{◌≡◌, ℕ, ◌+◌, ◌^◌, ◌<◌, ◌≤◌, nat_le, nat_lt, Bool, true, false, ◌⊎◌, List, [], ◌∷◌, All, length, map, Some, None, slice_get, IsTrue, if◌then◌else◌}
use Rattle.std.specs.Option.{option_map_or}
use Rattle.np_space.specs.declared.bound.Bound.{Bound}
use Rattle.np_space.specs.declared.bound.Bound.TheVariants as bound
use Rattle.np_count.specs.declared.proof.Proof.{Proof}
use Rattle.np_count.specs.Bounds.{is_proof, proof_bound}
use Rattle.np_flat.specs.declared.state.FlatState.{FlatState}
use Rattle.np_flat.specs.declared.parts.Parts.{Parts}
use Rattle.np_flat.specs.Same.{same_state}
use Rattle.np_flat.specs.States.{is_goal, next}
use Rattle.np_flat.specs.Plans.{cost_of}
use Rattle.np_flat.specs.Flats.{IsStateOf, AreNumbers, AreWithinLimit}
use Rattle.np_table.specs.Tables.{IsTable, reach}
use Rattle.np_table.specs.Tables as table
use Rattle.np_table.specs.Listed.{entry_in}
use Rattle.np_cert.specs.declared.limit.TheConstants.{LIMIT_SIZE}
use Rattle.np_cert.specs.declared.certificate.Limit.{Limit}
use Rattle.np_cert.specs.declared.certificate.Limit.TheVariants.{Number, Absent}
use Rattle.np_cert.specs.declared.certificate.Why.{Why}
use Rattle.np_cert.specs.declared.certificate.Why.TheVariants as why
use Rattle.np_cert.specs.declared.certificate.Entry.{Entry}
use Rattle.np_cert.specs.declared.certificate.Certificate.{Certificate}

-- whether the first is at most the second; that there is no plan is above every number
abbrev pub at_most : Limit → Limit → Bool
at_most (Number m) (Number n) = nat_le m n
at_most (Number m) Absent = true
at_most Absent (Number n) = false
at_most Absent Absent = true

-- a cost and a limit together; no plan stays no plan
abbrev pub after_cost : ℕ → Limit → Limit
after_cost cost (Number n) = Number (cost + n)
after_cost cost Absent = Absent

-- a limit below its limit of size, or that there is no plan
abbrev pub is_small : Limit → Bool
is_small (Number n) = nat_lt n LIMIT_SIZE
is_small Absent = true

-- a limit that 128 bits don't hold
abbrev pub IsWide : Limit → Type 0
IsWide (Number n) = 2 ^ 128 ≤ n
IsWide Absent = ⊥

-- the bound of the first entry of a state; 0 where there is none
abbrev pub bound_at : List Entry → FlatState → Limit
bound_at [] s = Number 0
bound_at (e ∷ es) s = if same_state e.state s then e.bound else bound_at es s

-- the state is one of the task, its values are within the limit, and the bound is small
pub record IsFitting (task : Parts) (e : Entry) : Type 0 where
  pub state : IsStateOf task e.state
  pub values : AreWithinLimit e.state.values
  pub bound : IsTrue (is_small e.bound)

-- the state isn't a goal, and the bound is at most what each step costs with the bound of the state after it
pub record IsExpanded (task : Parts) (entries : List Entry) (e : Entry) : Type 0 where
  pub no_goal : is_goal task e.state ≡ false
  pub steps : (n : ℕ) (after : FlatState) → next task n e.state ≡ Some after → IsTrue (at_most e.bound (after_cost (cost_of task n) (bound_at entries after)))

-- a bound as a limit
abbrev pub limit_of : Bound → Limit
limit_of (bound.AtLeast n) = Number n
limit_of bound.NoPlan = Absent

-- whether a counting proof has a bound at the state of an entry, and the bound of the entry is at most that
abbrev pub is_met_by : Parts → Entry → Proof → Bool
is_met_by task e proof = option_map_or (λ b. at_most e.bound (limit_of b)) (proof_bound task proof e.state) false

-- whether there is a proof of this number, and it does so
abbrev pub is_proved : Parts → List Proof → Entry → ℕ → Bool
is_proved task proofs e number = option_map_or (is_met_by task e) (slice_get proofs number) false

-- a limit as an entry of a table; that there is no plan as none
abbrev pub as_entry : Limit → table.Entry
as_entry (Number n) = Some n
as_entry Absent = None

-- an entry of a table as a limit
abbrev pub as_limit : table.Entry → Limit
as_limit (Some n) = Number n
as_limit None = Absent

-- ascending subgoals of the task are listed, what they are given is a table at the entry's state, where the others have 0, and the entry's bound is at
-- most the largest of the goal's subgoals, 0 where the goal has none
pub record IsTabled (task : Parts) (e : Entry) (numbers : List (ℕ × Limit)) : Type 0 where
  pub subgoals : AreNumbers (length task.subgoals) (map (λ x. x.0) numbers)
  pub table : IsTable task e.state (entry_in as_entry numbers)
  pub bounded : IsTrue (at_most e.bound (as_limit (reach (entry_in as_entry numbers) task.goal)))

-- the reason of an entry supports its bound: by expansion, the bound is 0 or the entry is expanded; by a proof, the proof bounds it; by a table, the
-- table does
abbrev pub Supports : Parts → List Proof → List Entry → Entry → Why → Type 0
Supports task proofs entries e why.Expanded = (e.bound ≡ Number 0) ⊎ IsExpanded task entries e
Supports task proofs entries e (why.Proof number) = IsTrue (is_proved task proofs e number)
Supports task proofs entries e (why.Table numbers) = IsTabled task e numbers

-- an entry is justified: it fits, and its reason supports its bound
pub record IsJustified (task : Parts) (proofs : List Proof) (entries : List Entry) (e : Entry) : Type 0 where
  pub fitting : IsFitting task e
  pub supported : Supports task proofs entries e e.why

-- a counting proof is valid, as far as that doesn't depend on a state
abbrev pub IsValidProof : Parts → Proof → Type 0
IsValidProof task proof = IsTrue (is_proof task proof)

-- the entry of this number has the state of an earlier one
pub record IsRepeated (entries : List Entry) (number : ℕ) : Type 0 where
  pub earlier : ℕ
  pub before : earlier < number
  pub first : Entry
  pub second : Entry
  pub first_is : slice_get entries earlier ≡ Some first
  pub second_is : slice_get entries number ≡ Some second
  pub same : first.state ≡ second.state

-- the claim is small, and at most the bound of the start
pub record IsClaimed (task : Parts) (c : Certificate) : Type 0 where
  pub small : IsTrue (is_small c.claim)
  pub bounded : IsTrue (at_most c.claim (bound_at c.entries task.start))

-- a valid certificate: valid proofs, distinct states, each entry justified, and the claim
pub record IsValid (task : Parts) (c : Certificate) : Type 0 where
  pub proofs : All (IsValidProof task) c.proofs
  pub distinct : (number : ℕ) → IsRepeated c.entries number → ⊥
  pub justified : All (IsJustified task c.proofs c.entries) c.entries
  pub claimed : IsClaimed task c
