-- A valid certificate's claim bounds every plan: by induction on the steps, so that entries may lean on each other in a circle.
use Rattle.std.proofs.Common.{◌≡◌, ℕ, ◌+◌, Bool, true, false, ◌⊎◌, inl, inr, List, [], ◌∷◌, All, Option, Some, None, slice_get, refl, sym, ◌∙◌, ap, subst, true≢false, if◌then◌else◌, IsTrue, arith, leb-true, le-leb}
use Rattle.std.specs.Option.{option_map_or}
use Rattle.std.proofs.lemmas.List.Elements.{All-head, All-tail}
use Rattle.std.proofs.lemmas.Option.{same_Some, option_and_then_some, slice_get_within, get_or_from_slice_get}
use Rattle.np_flat.specs.declared.state.FlatState.{FlatState}
use Rattle.np_flat.specs.declared.parts.Parts.{Parts}
use Rattle.np_flat.specs.Same.{same_state, same_state-Decides}
use Rattle.np_flat.specs.States.{is_goal, next}
use Rattle.np_flat.specs.Flats.{IsFlat}
use Rattle.np_flat.specs.Plans.{cost_of, cost_sum, run_from, Leads}
use Rattle.np_cert.specs.declared.certificate.Limit.{Limit}
use Rattle.np_cert.specs.declared.certificate.Limit.TheVariants.{Number, Absent}
use Rattle.np_count.specs.declared.proof.Proof.{Proof}
use Rattle.np_cert.specs.declared.certificate.Why.{Why}
use Rattle.np_cert.specs.declared.certificate.Why.TheVariants as why
use Rattle.np_cert.specs.declared.certificate.Entry.{Entry}
use Rattle.np_cert.specs.Valid.{at_most, after_cost, bound_at, limit_of, as_entry, as_limit, is_met_by, is_proved, IsFitting, IsTabled, Supports, IsJustified, IsExpanded, IsValidProof}
use Rattle.np_space.specs.Bounds.{IsAtMostCost}
use Rattle.np_space.specs.declared.bound.Bound.{Bound}
use Rattle.np_space.specs.declared.bound.Bound.TheVariants as bound
use Rattle.np_count.specs.Bounds.{proof_bound}
use Rattle.np_count.proofs.Plans.{proofs_bound}
use Rattle.np_table.specs.Tables.{IsUnder, reach}
use Rattle.np_table.specs.Listed.{entry_in}
use Rattle.np_table.proofs.Bounds.{tables_bound_plans}
use Rattle.np_check.specs.Bounds.{ClaimBounds}

-- 0 is at most every limit that is a number
least : (n : ℕ) → IsTrue (at_most (Number 0) (Number n))
least n = le-leb 0 n (omega arith)

-- what is at most a number is at most one that is at least as large
pub at_most_trans : (a b : Limit) (n : ℕ) → IsTrue (at_most a b) → IsTrue (at_most b (Number n)) → IsTrue (at_most a (Number n))
at_most_trans (Number x) (Number y) n p q = le-leb x n (omega (arith, leb-true x y p, leb-true y n q))
at_most_trans (Number x) Absent n p q = absurd (true≢false (sym q))
at_most_trans Absent (Number y) n p q = absurd (true≢false (sym p))
at_most_trans Absent Absent n p q = q

-- and a cost may be added on both sides
pub at_most_cost : (cost : ℕ) (b : Limit) (n : ℕ) → IsTrue (at_most b (Number n)) → IsTrue (at_most (after_cost cost b) (Number (cost + n)))
at_most_cost cost (Number y) n p = le-leb (cost + y) (cost + n) (omega (arith, leb-true y n p))
at_most_cost cost Absent n p = p

-- a limit that is at most a bound is at most each cost that the bound is
below : (limit : Limit) (b : Bound) (cost : ℕ) → IsTrue (at_most limit (limit_of b)) → IsAtMostCost b cost → IsTrue (at_most limit (Number cost))
below limit (bound.AtLeast n) cost h le = at_most_trans limit (Number n) cost h (le-leb n cost le)
below limit bound.NoPlan cost h none = absurd none

-- a bound that is 0 is at most every number
from_zero : (limit : Limit) (n : ℕ) → limit ≡ Number 0 → IsTrue (at_most limit (Number n))
from_zero limit n zero = subst (λ (b : Limit). IsTrue (at_most b (Number n))) (sym zero) (least n)

-- each list of steps from a state to the goal costs at least the limit
abbrev BoundsFrom : Parts → FlatState → Limit → Type 0
BoundsFrom task s limit = (numbers : List ℕ) → Leads task s numbers → IsTrue (at_most limit (Number (cost_sum task numbers)))

-- ---- proofs

-- each of valid proofs is valid
pub valid_at : (task : Parts) (proofs : List Proof) (number : ℕ) (proof : Proof) → All (IsValidProof task) proofs → slice_get proofs number ≡ Some proof → IsValidProof task proof
valid_at task proofs number proof valid there =
    subst (IsValidProof task) (get_or_from_slice_get proofs number proof proof there) (valid number proof (slice_get_within proofs number proof there))

module _ (task : Parts) (flat : IsFlat task) (e : Entry) (fits : IsFitting task e) where
  -- the bound of an entry by a valid proof bounds every plan from its state
  met : (proof : Proof) → IsValidProof task proof → IsTrue (is_met_by task e proof) → BoundsFrom task e.state e.bound
  met proof valid is = by (proof_bound task proof e.state) refl is
    where
      by : (o : Option Bound) → proof_bound task proof e.state ≡ o → IsTrue (option_map_or (λ b. at_most e.bound (limit_of b)) o false) → BoundsFrom task e.state e.bound
      by None there h = absurd (true≢false (sym h))
      by (Some b) there h = λ numbers leads. below e.bound b (cost_sum task numbers) h (proofs_bound task proof e.state b numbers flat fits.state valid there leads)

  proved : (proofs : List Proof) (number : ℕ) → All (IsValidProof task) proofs → IsTrue (is_proved task proofs e number) → BoundsFrom task e.state e.bound
  proved proofs number valid is = by (slice_get proofs number) refl is
    where
      by : (o : Option Proof) → slice_get proofs number ≡ o → IsTrue (option_map_or (is_met_by task e) o false) → BoundsFrom task e.state e.bound
      by None there h = absurd (true≢false (sym h))
      by (Some proof) there h = met proof (valid_at task proofs number proof valid there) h

-- ---- tables

-- a limit that is at most a number of a table is at most each cost that the number is
below_entry : (limit : Limit) (most : Option ℕ) (cost : ℕ) → IsTrue (at_most limit (as_limit most)) → IsUnder most cost → IsTrue (at_most limit (Number cost))
below_entry limit (Some n) cost h le = at_most_trans limit (Number n) cost h (le-leb n cost le)
below_entry limit None cost h none = absurd none

-- the bound of an entry by a table bounds every plan from its state
tabled : (task : Parts) (flat : IsFlat task) (e : Entry) (listed : List (ℕ × Limit)) → IsFitting task e → IsTabled task e listed → BoundsFrom task e.state e.bound
tabled task flat e listed fits is numbers leads =
    below_entry e.bound (reach (entry_in as_entry listed) task.goal) (cost_sum task numbers) is.bounded
    (tables_bound_plans task e.state (entry_in as_entry listed) numbers flat fits.state is.table leads)

-- ---- entries

module _ (task : Parts) (proofs : List Proof) (entries : List Entry) (flat : IsFlat task) (valid : All (IsValidProof task) proofs) where
  -- the bound of a state leans on the bounds of the states after it
  pub record LeansOn (s : FlatState) (bound : Limit) : Type 0 where
    pub no_goal : is_goal task s ≡ false
    pub steps : (n : ℕ) (after : FlatState) → next task n s ≡ Some after → IsTrue (at_most bound (after_cost (cost_of task n) (bound_at entries after)))

  leans : (e : Entry) (s : FlatState) → e.state ≡ s → IsExpanded task entries e → LeansOn s e.bound
  leans e s same h = subst (λ t. LeansOn t e.bound) same (record { no_goal = h.no_goal; steps = h.steps })

  -- a bound that a reason supports bounds every plan by itself, or leans on others
  supported : (e : Entry) (s : FlatState) → e.state ≡ s → IsFitting task e → (w : Why) → Supports task proofs entries e w → BoundsFrom task s e.bound ⊎ LeansOn s e.bound
  supported e s same fits why.Expanded (inl zero) = inl (λ numbers leads. from_zero e.bound (cost_sum task numbers) zero)
  supported e s same fits why.Expanded (inr h) = inr (leans e s same h)
  supported e s same fits (why.Proof number) h = inl (subst (λ t. BoundsFrom task t e.bound) same (proved task flat e fits proofs number valid h))
  supported e s same fits (why.Table listed) h = inl (subst (λ t. BoundsFrom task t e.bound) same (tabled task flat e listed fits h))

  -- so does the bound of a state, where entries are justified
  bound_is : (es : List Entry) (s : FlatState) → All (IsJustified task proofs entries) es → BoundsFrom task s (bound_at es s) ⊎ LeansOn s (bound_at es s)
  bound_is [] s all = inl (λ numbers leads. least (cost_sum task numbers))
  bound_is (e ∷ es) s all =
      by (same_state e.state s) refl (All-head (IsJustified task proofs entries) e es all) (bound_is es s (All-tail (IsJustified task proofs entries) e es all))
    where
      by : (b : Bool) → same_state e.state s ≡ b → IsJustified task proofs entries e → BoundsFrom task s (bound_at es s) ⊎ LeansOn s (bound_at es s)
          → BoundsFrom task s (if b then e.bound else bound_at es s) ⊎ LeansOn s (if b then e.bound else bound_at es s)
      by true same justified rest =
          supported e s ((same_state-Decides e.state s).0 same) justified.fitting e.why justified.supported
      by false other justified rest = rest

  -- the bound of a state is at most what each list of steps from there to the goal costs
  pub bound_at_most : All (IsJustified task proofs entries) entries → (numbers : List ℕ) (s : FlatState) → Leads task s numbers → IsTrue (at_most (bound_at entries s) (Number (cost_sum task numbers)))
  bound_at_most all [] s leads =
      elim (bound_is entries s all) [
        | inl bounds ↦ bounds [] leads
        | inr h ↦ absurd (true≢false (sym leads.goal ∙ ap (is_goal task) (sym (same_Some s leads.end leads.runs)) ∙ h.no_goal))
      ]
  bound_at_most all (n ∷ ns) s leads =
      by (bound_is entries s all) (bound_at_most all ns)
    where
      by : BoundsFrom task s (bound_at entries s) ⊎ LeansOn s (bound_at entries s)
          → ((t : FlatState) → Leads task t ns → IsTrue (at_most (bound_at entries t) (Number (cost_sum task ns))))
          → IsTrue (at_most (bound_at entries s) (Number (cost_of task n + cost_sum task ns)))
      by (inl bounds) onward = bounds (n ∷ ns) leads
      by (inr h) onward =
          option_and_then_some (run_from task ns) (next task n s) leads.end leads.runs
          (λ after there rest.
          at_most_trans (bound_at entries s) (after_cost (cost_of task n) (bound_at entries after)) (cost_of task n + cost_sum task ns)
          (h.steps n after there)
          (at_most_cost (cost_of task n) (bound_at entries after) (cost_sum task ns) (onward after (record { end = leads.end; runs = rest; goal = leads.goal }))))

-- a valid certificate's claim bounds every plan
pub claim_bounds : ClaimBounds
claim_bounds task c flat valid numbers leads =
    at_most_trans c.claim (bound_at c.entries task.start) (cost_sum task numbers) valid.claimed.bounded
    (bound_at_most task c.proofs c.entries flat valid.proofs valid.justified numbers task.start leads)
