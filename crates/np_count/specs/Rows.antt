-- Counting rows: where each is allowed, its coefficient for each step, and its right side at each state.
-- What they say of the plans of a task is operator counting (Pommerening, Röger, Helmert and Bonet 2014); these kinds are this project's own.
use Rattle.std.specs.Prelude.{ℕ, suc, ℤ, pos, negsuc, ◌+ℤ◌, ◌-ℤ◌, int_le, Bool, true, false, not, ◌&&◌, ◌||◌, nat_le, nat_lt, List, [], ◌∷◌, length, slice_get, is_some, if◌then◌else◌}
use Rattle.std.specs.Int.{int_min}
use Rattle.std.specs.List.{list_all, list_any}
use Rattle.std.specs.Option.{option_map_or}
use Rattle.std.specs.Cmp.Lexicographic.{pointwise}
use Rattle.np_flat.specs.declared.state.FlatState.{FlatState}
use Rattle.np_flat.specs.declared.parts.Form.{Form}
use Rattle.np_flat.specs.declared.parts.FlatStep.{FlatStep}
use Rattle.np_flat.specs.declared.parts.Parts.{Parts}
use Rattle.np_flat.specs.Same.{same_term}
use Rattle.np_flat.specs.States.{has, form_value, holds}
use Rattle.np_count.specs.declared.proof.Row.{Row}
use Rattle.np_count.specs.declared.proof.Row.TheVariants as row
use Rattle.np_flat.specs.Achieving.{net, achieves_at, requires_at, names_fact, form_at}

-- whether the step makes the fact true, or for false makes it false
abbrev pub makes : Bool → FlatStep → ℕ → Bool
makes true step p = has step.adds p
makes false step p = has step.deletes p

-- whether the fact is true, or for false is false
abbrev pub is_so : Bool → FlatState → ℕ → Bool
is_so true s p = has s.facts p
is_so false s p = not (has s.facts p)

-- 1 where it is so, else 0
abbrev pub one_if : Bool → ℤ
one_if true = pos 1
one_if false = pos 0

-- 1, less 1, or 0
abbrev pub one_way : Bool → Bool → ℤ
one_way up down = if up then pos 1 else (if down then negsuc 0 else pos 0)

-- how the step counts for a fact (for false its negation): 1 where it achieves it and doesn't require it, -1 where it requires it and
-- achieves the contrary
abbrev pub flow : Parts → Bool → ℕ → FlatStep → ℤ
flow task positive p step = one_way (makes positive step p && not (names_fact task positive p step.needs)) (names_fact task positive p step.needs && makes (not positive) step p)

-- the coefficient of a step
abbrev pub coefficient : Parts → FlatStep → Row → ℤ
coefficient task step (row.Demand q) = option_map_or (net step) (form_at task q) (pos 0)
coefficient task step (row.Flow p) = flow task true p step
coefficient task step (row.FlowNot p) = flow task false p step
coefficient task step (row.Floor q m) = option_map_or (net step) (form_at task q) (pos 0)
coefficient task step (row.Cut us) = one_if (list_any (achieves_at task step) us && not (list_any (requires_at step) us))

-- the value of a form by number
abbrev pub value_of : Parts → ℕ → FlatState → ℤ
value_of task q s = option_map_or (λ form. form_value form s) (form_at task q) (pos 0)

-- the right side at a state
abbrev pub right : Parts → FlatState → Row → ℤ
right task s (row.Demand q) = pos 0 -ℤ value_of task q s
right task s (row.Flow p) = one_if (names_fact task true p task.goal) -ℤ one_if (is_so true s p)
right task s (row.FlowNot p) = one_if (names_fact task false p task.goal) -ℤ one_if (is_so false s p)
right task s (row.Floor q m) = int_min (pos 0) (m -ℤ value_of task q s)
right task s (row.Cut us) = one_if (not (list_any (holds task s) us) && list_any (has task.goal) us)

-- whether two lists of terms are the same
abbrev pub same_terms : List (ℕ × ℤ) → List (ℕ × ℤ) → Bool
same_terms xs ys = pointwise same_term xs ys

-- whether a need has the form's very terms, and a constant that is at least so much smaller
abbrev pub guards : Parts → Form → ℤ → ℕ → Bool
guards task form least need = option_map_or (λ g. same_terms g.terms form.terms && int_le least (form.constant -ℤ g.constant)) (form_at task need) false

-- whether a step doesn't lower the form, or lowers it by k and has a need that keeps it at m + k or above
abbrev pub is_guarded : Parts → Form → ℤ → FlatStep → Bool
is_guarded task form m step = int_le (pos 0) (net step form) || list_any (guards task form (m -ℤ net step form)) step.needs

-- strictly ascending numbers, at or above the least and below the limit
abbrev pub are_between : ℕ → ℕ → List ℕ → Bool
are_between limit least [] = true
are_between limit least (u ∷ us) = nat_le least u && (nat_lt u limit && are_between limit (suc u) us)

abbrev pub is_cut : ℕ → List ℕ → Bool
is_cut limit [] = false
is_cut limit (u ∷ us) = are_between limit 0 (u ∷ us)

-- where a row is allowed
abbrev pub is_allowed : Parts → Row → Bool
is_allowed task (row.Demand q) = has task.goal q && is_some (form_at task q)
is_allowed task (row.Flow p) = nat_lt p (length task.facts)
is_allowed task (row.FlowNot p) = nat_lt p (length task.facts)
is_allowed task (row.Floor q m) = option_map_or (λ form. list_all (is_guarded task form m) task.steps) (form_at task q) false
is_allowed task (row.Cut us) = is_cut (length task.subgoals) us

-- the coefficients of steps by number, added up
abbrev pub counted : Parts → Row → List ℕ → ℤ
counted task r [] = pos 0
counted task r (n ∷ ns) = option_map_or (λ step. coefficient task step r) (slice_get task.steps n) (pos 0) +ℤ counted task r ns
