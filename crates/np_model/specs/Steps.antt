-- Steps: when one is applicable, the state after it, and its cost: the transition of PDDL 2.1 at level 2 (Fox and Long 2003).
-- This project's own: an amount without a value makes a step inapplicable, several changes of one value by one step add up,
-- and the cost of a step.
use Rattle.std.specs.Prelude.{ℕ, pos, Bool, true, false, not, ◌&&◌, ◌||◌, if◌then◌else◌, List, [], map, filter, slice_get, Option, Some, None, is_some, option_map, option_and_then}
use Rattle.std.specs.List.{list_any, list_all}
use Rattle.np_frac.specs.Fractions.{Fraction, whole, plus, minus}
use Rattle.np_model.specs.declared.task.Atom.{Atom}
use Rattle.np_model.specs.declared.task.Term.{Term}
use Rattle.np_model.specs.declared.task.Sum.{Sum}
use Rattle.np_model.specs.declared.task.Eff.{Eff}
use Rattle.np_model.specs.declared.task.Eff.TheVariants.{Add, Delete, Change}
use Rattle.np_model.specs.declared.task.Action.{Action}
use Rattle.np_model.specs.declared.task.Step.{Step}
use Rattle.np_model.specs.declared.task.TaskParts.{TaskParts}
use Rattle.np_model.specs.Ground.{atom_of, term_of, same_atom, same_term}
use Rattle.np_model.specs.States.{State}
use Rattle.np_model.specs.Values.{value_of, of_both, negated, sum_of}
use Rattle.np_model.specs.Conditions.{all_hold}
use Rattle.np_model.specs.Types.{type_of, all_fit}

-- whether objects fit the parameters of an action, one for each, each of the parameter's type or of one under it
abbrev pub takes : TaskParts → Action → List ℕ → Bool
takes task action objects = all_fit task.types action.parameters (map (type_of task.objects) objects)

-- the action of a step of the task; none where it names no action, or its objects don't fit
abbrev pub action_of : TaskParts → Step → Option Action
action_of task step =
    option_and_then (λ action. if takes task action step.objects then Some action else None) (slice_get task.actions step.action)

-- whether it is a step of the task
abbrev pub is_step : TaskParts → Step → Bool
is_step task step = is_some (action_of task step)

-- whether an effect adds the atom
abbrev pub adds : List ℕ → Atom → Eff → Bool
adds objects a (Add predicate refs) = same_atom a (atom_of objects predicate refs)
adds objects a (Delete predicate refs) = false
adds objects a (Change up function refs amount) = false

-- whether an effect deletes the atom
abbrev pub deletes : List ℕ → Atom → Eff → Bool
deletes objects a (Add predicate refs) = false
deletes objects a (Delete predicate refs) = same_atom a (atom_of objects predicate refs)
deletes objects a (Change up function refs amount) = false

-- whether an effect changes the term's value
abbrev pub changes : List ℕ → Term → Eff → Bool
changes objects t (Add predicate refs) = false
changes objects t (Delete predicate refs) = false
changes objects t (Change up function refs amount) = same_term t (term_of objects function refs)

-- what an effect adds to the value that it changes: its amount, negated where it decreases; none where the amount has no value
abbrev pub amount_of : List ℕ → State → Eff → Option Fraction
amount_of objects s (Add predicate refs) = None
amount_of objects s (Delete predicate refs) = None
amount_of objects s (Change true function refs amount) = value_of objects s amount
amount_of objects s (Change false function refs amount) = option_map negated (value_of objects s amount)

-- whether an effect can happen: its amount, and the term that it changes, have values
abbrev pub is_possible : List ℕ → State → Eff → Bool
is_possible objects s (Add predicate refs) = true
is_possible objects s (Delete predicate refs) = true
is_possible objects s (Change up function refs amount) =
    is_some (value_of objects s amount) && is_some (s.value (term_of objects function refs))

-- whether an action's needs hold and its effects can happen
abbrev pub is_applicable : Action → List ℕ → State → Bool
is_applicable action objects s =
    all_hold objects s action.needs && list_all (is_possible objects s) action.effects

-- an atom is true afterwards where the action adds it, or where it was true and the action doesn't delete it
abbrev pub has_after : Action → List ℕ → State → Atom → Bool
has_after action objects s a =
    list_any (adds objects a) action.effects || (s.has a && not (list_any (deletes objects a) action.effects))

-- the sum of an action's amounts on a term, read in the state before
abbrev pub change_of : Action → List ℕ → State → Term → Option Fraction
change_of action objects s t = sum_of (map (amount_of objects s) (filter (changes objects t) action.effects))

-- the state after an action: deleted atoms go, then added ones come; each term has its value and the sum of the amounts on it
abbrev pub result_of : Action → List ℕ → State → State
result_of action objects s = record {
  has = has_after action objects s;
  value = λ t. of_both plus (s.value t) (change_of action objects s t);
}

-- the state after a step of the task that is applicable; none where it is no step of the task or isn't applicable
unfoldable pub next : TaskParts → Step → State → Option State
next task step s =
    option_and_then
    (λ action. if is_applicable action step.objects s then Some (result_of action step.objects s) else None)
    (action_of task step)

-- the cost of a step between two states: the metric's value after it less the value before it, or 1 without a metric
abbrev pub cost_between : Option Sum → State → State → Option Fraction
cost_between None before after = Some (whole (pos 1))
cost_between (Some metric) before after =
    of_both minus (value_of [] after metric) (value_of [] before metric)
