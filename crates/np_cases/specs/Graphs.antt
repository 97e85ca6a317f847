-- A small space of states: places with numbers, edges between them, and tables of distances from places to the goal.
use Rattle.std.specs.Prelude.{◌≡◌, ℕ, ◌<◌, ◌≤◌, ◌^◌, ℤ, pos, Bool, true, List, [], ◌∷◌, length, slice_get, slice_index_or, Option, Some, None, if◌then◌else◌}
use Rattle.std.proofs.Common.{ap}
use Rattle.std.specs.List.{list_all}
use Rattle.std.specs.Option.{option_and_then}
use Rattle.std.specs.Ordering.{int_eq}
use Rattle.std.proofs.lemmas.Option.{slice_get_past}
use Rattle.np_frac.specs.Fractions.{whole}
use Rattle.np_state.specs.StateValues.{StateValue}
use Rattle.np_space.specs.Runs.{Next}
use Rattle.np_space.specs.Bounds.{is_at_most, sum_of}
use Rattle.np_space.specs.declared.bound.Bound.{Bound}
use Rattle.np_space.specs.declared.bound.Bound.TheVariants.{AtLeast, NoPlan}

-- the number of a place, as a state
abbrev pub at_place : ℤ → StateValue
at_place z = record { facts = []; cells = whole z ∷ [] }

-- the place of a state
abbrev pub place_of : StateValue → ℤ
place_of s = (slice_index_or s.cells 0 (whole (pos 0))).num

-- an edge from one place to another at a cost, taken as a step
abbrev pub along : StateValue → ℤ × ℤ × ℕ → Option (StateValue × ℕ)
along s e = if int_eq e.0 (place_of s) then Some (at_place e.1, e.2) else None

abbrev pub next_along : List (ℤ × ℤ × ℕ) → Next StateValue
next_along edges s n = option_and_then (along s) (slice_get edges n)

-- there are no steps but the edges
pub no_more_edges : (edges : List (ℤ × ℤ × ℕ)) (s : StateValue) (n : ℕ) → length edges ≤ n → next_along edges s n ≡ None
no_more_edges edges s n past = ap (option_and_then (along s)) (slice_get_past edges n past)

abbrev pub is_at : ℤ → StateValue → Bool
is_at goal s = int_eq (place_of s) goal

-- a bound of a table; none is that there is no plan
abbrev pub bound_of : Option ℕ → Bound
bound_of None = NoPlan
bound_of (Some n) = AtLeast n

-- the bound of a place; 0 where the table has none
abbrev pub bound_at : List (ℤ × Option ℕ) → ℤ → Bound
bound_at [] z = AtLeast 0
bound_at (row ∷ rows) z = if int_eq row.0 z then bound_of row.1 else bound_at rows z

-- a distance is at most an edge and the distance from its end together
abbrev pub is_short : List (ℤ × Option ℕ) → ℤ × ℤ × ℕ → Bool
is_short distances e = is_at_most (bound_at distances e.0) (sum_of (AtLeast e.2) (bound_at distances e.1))

-- a bound is at most the distance
abbrev pub is_below : List (ℤ × Option ℕ) → ℤ × Option ℕ → Bool
is_below distances row = is_at_most (bound_of row.1) (bound_at distances row.0)

-- distances that show that the bounds are ones: 0 at the goal, short along each edge, and above the bounds
pub record IsGraph (edges : List (ℤ × ℤ × ℕ)) (goal : ℤ) (bounds distances : List (ℤ × Option ℕ)) : Type 0 where
  pub few : length edges < 2 ^ 32
  pub at_goal : is_at_most (bound_at distances goal) (AtLeast 0) ≡ true
  pub short : list_all (is_short distances) edges ≡ true
  pub below : list_all (is_below distances) bounds ≡ true
