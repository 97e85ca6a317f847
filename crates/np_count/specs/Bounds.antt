-- Counting proofs: when one is right, and what it bounds at a state.
use Rattle.std.specs.Prelude.{◌≡◌, ℕ, ◌+◌, ◌-◌, ◌*◌, ◌/◌, ◌^◌, ℤ, pos, negsuc, ◌+ℤ◌, ◌*ℤ◌, ◌≤ℤ◌, int_le, int_lt, unsigned_abs, Bool, true, false, ◌==◌, ◌&&◌, nat_lt, List, [], ◌∷◌, All, Option, Some, None, if◌then◌else◌}
use Rattle.std.specs.List.{list_all}
use Rattle.std.specs.Option.{option_map_or, option_and_then}
use Rattle.np_flat.specs.declared.state.FlatState.{FlatState}
use Rattle.np_flat.specs.declared.parts.FlatStep.{FlatStep}
use Rattle.np_flat.specs.declared.parts.Parts.{Parts}
use Rattle.np_flat.specs.Flats.{IsFlat, IsStateOf}
use Rattle.np_flat.specs.States.{next}
use Rattle.np_flat.specs.Plans.{cost_of, cost_sum, Leads}
use Rattle.np_space.specs.Bounds.{IsAtMostCost}
use Rattle.np_count.specs.declared.proof.Row.{Row}
use Rattle.np_count.specs.declared.proof.Row.TheVariants as row
use Rattle.np_count.specs.declared.proof.Proof.{Proof}
use Rattle.np_space.specs.declared.bound.Bound.{Bound}
use Rattle.np_space.specs.declared.bound.Bound.TheVariants as bound
use Rattle.np_count.specs.Rows.{coefficient, right, is_allowed, counted}

-- the weighted amounts, added up
abbrev pub weighted : (Row → ℤ) → List (ℕ × Row) → ℤ
weighted amount [] = pos 0
weighted amount (i ∷ is) = (pos i.0 *ℤ amount i.1) +ℤ weighted amount is

-- whether the number is one of 128 bits
abbrev pub fits : ℤ → Bool
fits (pos n) = nat_lt n (2 ^ 127)
fits (negsuc n) = nat_lt n (2 ^ 127)

-- a sum with one more weighted amount, where the product and the sum fit
abbrev pub with_item : ℤ → ℕ → ℤ → Option ℤ
with_item sum weight amount = if fits (pos weight *ℤ amount) then (if fits (sum +ℤ (pos weight *ℤ amount)) then Some (sum +ℤ (pos weight *ℤ amount)) else None) else None

-- the weighted amounts added up in their order, where every product and every partial sum fits
abbrev pub added_up : (Row → ℤ) → ℤ → List (ℕ × Row) → Option ℤ
added_up amount sum [] = Some sum
added_up amount sum (i ∷ is) = option_and_then (λ next. added_up amount next is) (with_item sum i.0 (amount i.1))

-- whether the weighted coefficients of a step add up to at most the divisor times its cost
abbrev pub pays : Parts → Proof → FlatStep → Bool
pays task proof step = option_map_or (λ sum. int_le sum (pos (proof.divisor * step.cost))) (added_up (coefficient task step) (pos 0) proof.items) false

-- whether the number of a floor is within its limit
abbrev pub is_small : Row → Bool
is_small (row.Demand q) = true
is_small (row.Flow p) = true
is_small (row.FlowNot p) = true
is_small (row.Floor q m) = nat_lt (unsigned_abs m) (2 ^ 125)
is_small (row.Cut us) = true

-- whether the weight is 1 or more and within its limit, and the row allowed
abbrev pub is_item : Parts → ℕ × Row → Bool
is_item task i = nat_lt 0 i.0 && (nat_lt i.0 (2 ^ 62) && (is_small i.1 && is_allowed task i.1))

-- a proof: every row is allowed, and every step pays
abbrev pub is_proof : Parts → Proof → Bool
is_proof task proof = nat_lt proof.divisor (2 ^ 62) && (list_all (is_item task) proof.items && list_all (pays task proof) task.steps)

-- the number, and 0 where it is below 0
abbrev pub at_least_0 : ℤ → ℕ
at_least_0 (pos n) = n
at_least_0 (negsuc n) = 0

-- a number below 2^62 as a bound
abbrev pub bound_below : ℕ → Option Bound
bound_below n = if nat_lt n (2 ^ 62) then Some (bound.AtLeast n) else None

-- the weighted right sides over the divisor, rounded up; for the divisor 0 no plan where they are above 0
abbrev pub bound_of : ℕ → ℤ → Option Bound
bound_of divisor total =
    if divisor == 0 then (if int_lt (pos 0) total then Some bound.NoPlan else Some (bound.AtLeast 0)) else bound_below ((at_least_0 total + (divisor - 1)) / divisor)

-- what a proof bounds at a state, where everything fits
abbrev pub proof_bound : Parts → Proof → FlatState → Option Bound
proof_bound task proof s = option_and_then (bound_of proof.divisor) (added_up (right task s) (pos 0) proof.items)

-- rows that are allowed, with weights for which every step pays, whatever the size of the sums
pub record IsPriced (task : Parts) (divisor : ℕ) (items : List (ℕ × Row)) : Type 0 where
  pub allowed : list_all (λ i. is_allowed task i.1) items ≡ true
  pub pays : All (λ step. weighted (coefficient task step) items ≤ℤ pos (divisor * step.cost)) task.steps

-- each allowed row is an inequality that the steps of every plan from every state meet
abbrev pub RowsHold : Type 0
RowsHold = (task : Parts) (r : Row) (s : FlatState) (numbers : List ℕ) → IsFlat task → IsStateOf task s → is_allowed task r ≡ true → Leads task s numbers → right task s r ≤ℤ counted task r numbers

-- no plan from a state costs less than the bound there
abbrev pub ProofsBound : Type 0
ProofsBound = (task : Parts) (proof : Proof) (s : FlatState) (b : Bound) (numbers : List ℕ) → IsFlat task → IsStateOf task s → is_proof task proof ≡ true → proof_bound task proof s ≡ Some b → Leads task s numbers → IsAtMostCost b (cost_sum task numbers)

-- the same without any limit of size: the weighted right sides at a state are at most the divisor times the cost of every plan from there
abbrev pub WeightsHold : Type 0
WeightsHold = (task : Parts) (divisor : ℕ) (items : List (ℕ × Row)) (s : FlatState) (numbers : List ℕ) → IsFlat task → IsStateOf task s → IsPriced task divisor items → Leads task s numbers → weighted (right task s) items ≤ℤ pos (divisor * cost_sum task numbers)

-- a step lowers the weighted right sides by no more than the divisor times its cost
abbrev pub WeightsFall : Type 0
WeightsFall = (task : Parts) (divisor n : ℕ) (items : List (ℕ × Row)) (s t : FlatState) → IsFlat task → IsStateOf task s → IsPriced task divisor items → next task n s ≡ Some t → weighted (right task s) items ≤ℤ (pos (divisor * cost_of task n) +ℤ weighted (right task t) items)

-- every step of a right proof pays
abbrev pub ProofsPrice : Type 0
ProofsPrice = (task : Parts) (proof : Proof) → is_proof task proof ≡ true → IsPriced task proof.divisor proof.items
