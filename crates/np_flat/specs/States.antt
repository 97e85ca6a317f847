-- Flat states: when a subgoal holds in one, and what a step makes of one (PDDL 2.1 at level 2, Fox and Long 2003, by number).
use Rattle.std.specs.Prelude.{ℕ, ℤ, pos, ◌+ℤ◌, ◌*ℤ◌, int_le, Bool, ◌==◌, nat_lt, not, false, List, [], ◌∷◌, filter, slice_get, slice_index_or, slice_set, Option, Some, None, if◌then◌else◌}
use Rattle.std.specs.List.{list_all, list_any}
use Rattle.std.specs.Option.{option_map_or, option_and_then}
use Rattle.np_flat.specs.declared.state.FlatState.{FlatState}
use Rattle.np_flat.specs.declared.parts.Form.{Form}
use Rattle.np_flat.specs.declared.parts.Subgoal.{Subgoal}
use Rattle.np_flat.specs.declared.parts.Subgoal.TheVariants as subgoal
use Rattle.np_flat.specs.declared.parts.FlatStep.{FlatStep}
use Rattle.np_flat.specs.declared.parts.Parts.{Parts}

-- whether a number is in the list
abbrev pub has : List ℕ → ℕ → Bool
has numbers n = list_any (λ m. m == n) numbers

-- the value of this number
abbrev pub value_at : List ℤ → ℕ → ℤ
value_at values n = slice_index_or values n (pos 0)

-- coefficient times value, added up over the terms
abbrev pub terms_value : List ℤ → List (ℕ × ℤ) → ℤ
terms_value values [] = pos 0
terms_value values (t ∷ ts) = (t.1 *ℤ value_at values t.0) +ℤ terms_value values ts

-- the value of a form: its constant, and its terms
abbrev pub form_value : Form → FlatState → ℤ
form_value form s = form.constant +ℤ terms_value s.values form.terms

-- whether a subgoal holds: a fact is true, a fact is false, or a form's value is at least 0
abbrev pub subgoal_holds : FlatState → Subgoal → Bool
subgoal_holds s (subgoal.Fact p) = has s.facts p
subgoal_holds s (subgoal.NotFact p) = not (has s.facts p)
subgoal_holds s (subgoal.Form form) = int_le (pos 0) (form_value form s)

-- whether the subgoal of this number holds
abbrev pub holds : Parts → FlatState → ℕ → Bool
holds task s q = option_map_or (subgoal_holds s) (slice_get task.subgoals q) false

abbrev pub is_goal : Parts → FlatState → Bool
is_goal task s = list_all (holds task s) task.goal

-- whether a step's needs all hold
abbrev pub meets : Parts → FlatState → FlatStep → Bool
meets task s step = list_all (holds task s) step.needs

-- whether the step of this number is applicable: all its needs hold
abbrev pub is_applicable : Parts → FlatState → ℕ → Bool
is_applicable task s n = option_map_or (meets task s) (slice_get task.steps n) false

-- the number in its place in an ascending list; the list as it is where the number is in it
abbrev pub put_in : ℕ → List ℕ → List ℕ
put_in n [] = n ∷ []
put_in n (m ∷ ms) = if nat_lt n m then n ∷ m ∷ ms else (if n == m then m ∷ ms else m ∷ put_in n ms)

-- all the numbers in their places
abbrev pub put_all : List ℕ → List ℕ → List ℕ
put_all [] ms = ms
put_all (n ∷ ns) ms = put_all ns (put_in n ms)

-- the facts without those that the step deletes, and then with those that it adds
abbrev pub facts_after : FlatStep → List ℕ → List ℕ
facts_after step facts = put_all step.adds (filter (λ p. not (has step.deletes p)) facts)

-- the values with one change added
abbrev pub changed : List ℤ → ℕ × ℤ → List ℤ
changed values change = slice_set values change.0 (value_at values change.0 +ℤ change.1)

-- the values with all changes added
abbrev pub all_changed : List (ℕ × ℤ) → List ℤ → List ℤ
all_changed [] values = values
all_changed (c ∷ cs) values = all_changed cs (changed values c)

-- the state after a step
abbrev pub state_after : FlatStep → FlatState → FlatState
state_after step s = record { facts = facts_after step s.facts; values = all_changed step.changes s.values }

-- the state after the step of this number, where there is one and it is applicable
abbrev pub next : Parts → ℕ → FlatState → Option FlatState
next task n s = option_and_then (λ step. if meets task s step then Some (state_after step s) else None) (slice_get task.steps n)
