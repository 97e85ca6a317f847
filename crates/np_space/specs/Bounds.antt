-- Lower bounds on the cost of plans. `NoPlan` is above all numbers.
use Rattle.std.specs.Prelude.{ℕ, ◌+◌, ◌≤◌, ◌^◌, Bool, true, false, ⊤, List, nat_le, nat_lt}
use Rattle.np_space.specs.Runs.{Next, IsPlan}
use Rattle.np_space.specs.declared.bound.Bound.{Bound}
use Rattle.np_space.specs.declared.bound.Bound.TheVariants.{AtLeast, NoPlan}

-- whether one bound is at most another
abbrev pub is_at_most : Bound → Bound → Bool
is_at_most b NoPlan = true
is_at_most NoPlan (AtLeast n) = false
is_at_most (AtLeast m) (AtLeast n) = nat_le m n

-- the sum of two bounds
abbrev pub sum_of : Bound → Bound → Bound
sum_of NoPlan b = NoPlan
sum_of (AtLeast m) NoPlan = NoPlan
sum_of (AtLeast m) (AtLeast n) = AtLeast (m + n)

-- whether the sum is `NoPlan` or a number below 2 ^ 64
abbrev pub has_narrow_sum : Bound → Bound → Bool
has_narrow_sum NoPlan b = true
has_narrow_sum (AtLeast m) NoPlan = true
has_narrow_sum (AtLeast m) (AtLeast n) = nat_lt (m + n) (2 ^ 64)

-- a bound is at most a cost
abbrev pub IsAtMostCost : Bound → ℕ → Type 0
IsAtMostCost NoPlan cost = ⊥
IsAtMostCost (AtLeast n) cost = n ≤ cost

-- each plan from s costs at least the bound: there is none where it is `NoPlan`
pub record IsBoundAt {S : Type 0} (next : Next S) (goal : S → Bool) (s : S) (bound : Bound) : Type 0 where
  pub least : (steps : List ℕ) (cost : ℕ) → IsPlan next goal s steps cost → IsAtMostCost bound cost

-- a number of a bound is at most 2 ^ 61
abbrev pub IsSmallBound : Bound → Type 0
IsSmallBound NoPlan = ⊤
IsSmallBound (AtLeast n) = n ≤ 2 ^ 61
