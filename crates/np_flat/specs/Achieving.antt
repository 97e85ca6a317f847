-- What a step achieves and what it requires, and how it changes the value of a form.
use Rattle.std.specs.Prelude.{ℕ, ℤ, pos, ◌+ℤ◌, ◌*ℤ◌, int_lt, Bool, true, false, ◌==◌, List, [], ◌∷◌, slice_get, Option, Some, None, option_and_then, if◌then◌else◌}
use Rattle.std.specs.List.{list_any}
use Rattle.std.specs.Option.{option_map_or}
use Rattle.np_flat.specs.declared.parts.Form.{Form}
use Rattle.np_flat.specs.declared.parts.Subgoal.{Subgoal}
use Rattle.np_flat.specs.declared.parts.Subgoal.TheVariants as subgoal
use Rattle.np_flat.specs.declared.parts.FlatStep.{FlatStep}
use Rattle.np_flat.specs.declared.parts.Parts.{Parts}
use Rattle.np_flat.specs.States.{has}

-- the change on the value of this number; 0 where there is none
abbrev pub change_on : List (ℕ × ℤ) → ℕ → ℤ
change_on [] n = pos 0
change_on (c ∷ cs) n = if c.0 == n then c.1 else change_on cs n

-- coefficient times change, added up over the terms
abbrev pub net_terms : List (ℕ × ℤ) → List (ℕ × ℤ) → ℤ
net_terms changes [] = pos 0
net_terms changes (t ∷ ts) = (t.1 *ℤ change_on changes t.0) +ℤ net_terms changes ts

-- the net change of a step on a form
abbrev pub net : FlatStep → Form → ℤ
net step form = net_terms step.changes form.terms

-- the net change of the step of this number; 0 where there is none
abbrev pub net_of : Parts → ℕ → Form → ℤ
net_of task n form = option_map_or (λ step. net step form) (slice_get task.steps n) (pos 0)

-- a step achieves a fact that it adds, the negation of a fact that it deletes, and a form on which its net change is above 0
abbrev pub achieves : FlatStep → Subgoal → Bool
achieves step (subgoal.Fact p) = has step.adds p
achieves step (subgoal.NotFact p) = has step.deletes p
achieves step (subgoal.Form form) = int_lt (pos 0) (net step form)

-- the same of the subgoal of this number
abbrev pub achieves_at : Parts → FlatStep → ℕ → Bool
achieves_at task step q = option_map_or (achieves step) (slice_get task.subgoals q) false

-- the same of the step of this number
abbrev pub achieved_by : Parts → ℕ → ℕ → Bool
achieved_by task n q = option_map_or (λ step. achieves_at task step q) (slice_get task.steps n) false

-- a step requires the subgoals that are among its needs
abbrev pub requires_at : FlatStep → ℕ → Bool
requires_at step q = has step.needs q

-- whether a subgoal is this fact, or for false its negation
abbrev pub is_fact : Bool → ℕ → Subgoal → Bool
is_fact true p (subgoal.Fact f) = f == p
is_fact true p (subgoal.NotFact f) = false
is_fact true p (subgoal.Form form) = false
is_fact false p (subgoal.Fact f) = false
is_fact false p (subgoal.NotFact f) = f == p
is_fact false p (subgoal.Form form) = false

-- whether one of the subgoals of these numbers is this fact, or for false its negation
abbrev pub names_fact : Parts → Bool → ℕ → List ℕ → Bool
names_fact task positive p numbers = list_any (λ q. option_map_or (is_fact positive p) (slice_get task.subgoals q) false) numbers

-- the form, where a subgoal is one
abbrev pub as_form : Subgoal → Option Form
as_form (subgoal.Fact p) = None
as_form (subgoal.NotFact p) = None
as_form (subgoal.Form form) = Some form

-- the form of this number; none where the number names no form
abbrev pub form_at : Parts → ℕ → Option Form
form_at task q = option_and_then as_form (slice_get task.subgoals q)
