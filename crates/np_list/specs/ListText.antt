-- The text of a flat task, line by line, numbers ascending. The layout is this project's own.
use Rattle.std.specs.Prelude.{ℕ, ℤ, Bool, true, false, ◌++◌, List, [], slice_get, Option, codes, decimal}
use Rattle.std.specs.Fmt.{signed_decimal}
use Rattle.std.specs.List.{enumerate_from, flat_map}
use Rattle.std.specs.Option.{option_map_or}
use Rattle.np_model.specs.declared.task.Atom.{Atom}
use Rattle.np_model.specs.declared.task.Term.{Term}
use Rattle.np_model.specs.declared.task.TaskParts.{TaskParts}
use Rattle.np_flat.specs.declared.parts.Form.{Form}
use Rattle.np_flat.specs.declared.parts.Subgoal.{Subgoal}
use Rattle.np_flat.specs.declared.parts.Subgoal.TheVariants.{Fact, NotFact, Form as AForm}
use Rattle.np_flat.specs.declared.parts.FlatStep.{FlatStep}
use Rattle.np_flat.specs.declared.parts.Parts.{Parts}
use Rattle.np_flat.specs.States.{has}
use Rattle.np_list.specs.Names.{atom_text, term_text, step_text}

-- a number after a space
abbrev pub spaced_number : ℕ → List ℕ
spaced_number n = codes " " ++ decimal n

abbrev pub spaced_value : ℤ → List ℕ
spaced_value v = codes " " ++ signed_decimal v

-- a word, and numbers after it
abbrev pub numbers_after : List ℕ → List ℕ → List ℕ
numbers_after word numbers = word ++ flat_map spaced_number numbers

-- how a line begins: its kind, its number and a space
abbrev pub line_start : List ℕ → ℕ → List ℕ
line_start kind n = kind ++ spaced_number n ++ codes " "

-- unit S
abbrev pub unit_line : ℤ → List ℕ
unit_line unit = codes "unit" ++ spaced_value unit ++ codes "\n"

abbrev pub truth_text : Bool → List ℕ
truth_text true = codes " true\n"
truth_text false = codes " false\n"

-- fact N (predicate object ..) true, or false
abbrev pub fact_line : TaskParts → Bool → ℕ → Atom → List ℕ
fact_line task holds n atom = line_start (codes "fact") n ++ atom_text task atom ++ truth_text holds

abbrev pub facts_text : TaskParts → Parts → List ℕ
facts_text task flat = flat_map (λ p. fact_line task (has flat.start.facts p.0) p.0 p.1) (enumerate_from 0 flat.facts)

-- a start value after a space, where there is one
abbrev pub start_text : Option ℤ → List ℕ
start_text start = option_map_or spaced_value start []

-- value N (function object ..) START
abbrev pub value_line : TaskParts → Option ℤ → ℕ → Term → List ℕ
value_line task start n term = line_start (codes "value") n ++ term_text task term ++ start_text start ++ codes "\n"

abbrev pub values_text : TaskParts → Parts → List ℕ
values_text task flat = flat_map (λ p. value_line task (slice_get flat.start.values p.0) p.0 p.1) (enumerate_from 0 flat.values)

-- A*V, a coefficient and its value's number, after a space
abbrev pub form_term_text : ℕ × ℤ → List ℕ
form_term_text t = spaced_value t.1 ++ codes "*" ++ decimal t.0

abbrev pub form_text : Form → List ℕ
form_text form = codes "form" ++ spaced_value form.constant ++ flat_map form_term_text form.terms

-- fact F, not F, or form CONSTANT A*V ..
abbrev pub subgoal_text : Subgoal → List ℕ
subgoal_text (Fact p) = codes "fact" ++ spaced_number p
subgoal_text (NotFact p) = codes "not" ++ spaced_number p
subgoal_text (AForm form) = form_text form

-- subgoal N and what it is
abbrev pub subgoal_line : ℕ → Subgoal → List ℕ
subgoal_line n subgoal = line_start (codes "subgoal") n ++ subgoal_text subgoal ++ codes "\n"

abbrev pub subgoals_text : Parts → List ℕ
subgoals_text flat = flat_map (λ p. subgoal_line p.0 p.1) (enumerate_from 0 flat.subgoals)

-- V:K, a value's number and what is added to it, after a space
abbrev pub change_text : ℕ × ℤ → List ℕ
change_text c = spaced_number c.0 ++ codes ":" ++ signed_decimal c.1

abbrev pub changes_text : List (ℕ × ℤ) → List ℕ
changes_text changes = codes " changes" ++ flat_map change_text changes

-- needs .. adds .. deletes .. changes ..
abbrev pub lists_text : FlatStep → List ℕ
lists_text step =
    numbers_after (codes " needs") step.needs ++ numbers_after (codes " adds") step.adds ++ numbers_after (codes " deletes") step.deletes
    ++ changes_text step.changes

-- step N (action object ..) cost C, and its lists
abbrev pub step_line : TaskParts → ℕ → FlatStep → List ℕ
step_line task n step =
    line_start (codes "step") n ++ step_text task step.step ++ codes " cost" ++ spaced_number step.cost ++ lists_text step ++ codes "\n"

abbrev pub steps_text : TaskParts → Parts → List ℕ
steps_text task flat = flat_map (λ p. step_line task p.0 p.1) (enumerate_from 0 flat.steps)

-- goal ..
abbrev pub goal_line : List ℕ → List ℕ
goal_line goal = numbers_after (codes "goal") goal ++ codes "\n"

-- the whole text of the flat task of a task
abbrev pub list_text : TaskParts → Parts → List ℕ
list_text task flat =
    unit_line flat.unit ++ facts_text task flat ++ values_text task flat ++ subgoals_text flat ++ steps_text task flat ++ goal_line flat.goal
