-- The cuts that bound at a state: lists of subgoals that are false there, one of them of the goal, so that a plan from there takes a step that
-- achieves one of them (landmarks, Helmert and Domshlak 2009). Sharpening them is this project's own.
use Rattle.std.specs.Prelude.{◌≡◌, ℕ, pos, int_lt, Bool, true, false, not, List, [], ◌∷◌, ◌++◌, map, length, filter, slice_get, All}
use Rattle.std.specs.List.{range_with_len}
use Rattle.std.specs.Option.{option_map_or}
use Rattle.np_flat.specs.declared.state.FlatState.{FlatState}
use Rattle.np_flat.specs.declared.parts.Parts.{Parts}
use Rattle.np_flat.specs.States.{holds}
use Rattle.np_relax.specs.Closed.{IsLeast}
use Rattle.np_count.specs.declared.proof.Row.{Row}
use Rattle.np_count.specs.declared.proof.Row.TheVariants as row
use Rattle.np_count.specs.Rows.{coefficient, right, is_allowed}

-- whether the step of this number has a coefficient above 0 in the cut of this subgoal alone
abbrev pub counts : Parts → ℕ → ℕ → Bool
counts task q n = option_map_or (λ step. int_lt (pos 0) (coefficient task step (row.Cut (q ∷ [])))) (slice_get task.steps n) false

-- the subgoals outside a set, ascending
abbrev pub outside : Parts → (ℕ → Bool) → List ℕ
outside task set = filter (λ p. not (set p)) (range_with_len 0 (length task.subgoals))

-- the sharpened cut of a subgoal: of all subgoals outside the least set without the steps that the cut of it alone counts
pub record IsSharpened (task : Parts) (s : FlatState) (q : ℕ) (r : Row) : Type 0 where
  pub set : ℕ → Bool
  pub least : IsLeast task s (counts task q) set
  pub cut : r ≡ row.Cut (outside task set)

-- the sharpened cut of each of these subgoals, in the same order
abbrev pub AreSharpened : Parts → FlatState → List ℕ → List Row → Type 0
AreSharpened task s [] [] = Unit {0}
AreSharpened task s [] (r ∷ rs) = ⊥
AreSharpened task s (q ∷ qs) [] = ⊥
AreSharpened task s (q ∷ qs) (r ∷ rs) = IsSharpened task s q r × AreSharpened task s qs rs

-- those of these subgoals that are false in the state
abbrev pub false_ones : Parts → FlatState → List ℕ → List ℕ
false_ones task s goal = filter (λ q. not (holds task s q)) goal

-- the cut of each subgoal alone
abbrev pub single_cuts : List ℕ → List Row
single_cuts qs = map (λ q. row.Cut (q ∷ [])) qs

-- the cut of each subgoal of the goal that is false in the state, and then the sharpened cut of each; each is allowed and has the right side 1 there
pub record AreCuts (task : Parts) (s : FlatState) (rows : List Row) : Type 0 where
  pub sharpened : List Row
  pub all : rows ≡ single_cuts (false_ones task s task.goal) ++ sharpened
  pub are : AreSharpened task s (false_ones task s task.goal) sharpened
  pub allowed : All (λ r. is_allowed task r ≡ true) rows
  pub right_sides : All (λ r. right task s r ≡ pos 1) rows
