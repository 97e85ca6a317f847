-- States, runs and plans of a bound task, over the states of planning by names (PDDL 2.1 at level 2, Fox and Long 2003).
use Rattle.std.specs.Prelude.{◌≡◌, Bool, false, not, ◌&&◌, ◌||◌, if◌then◌else◌, List, [], ◌∷◌, Option, Some, None, IsTrue, option_and_then}
use Rattle.std.specs.Option.{option_map}
use Rattle.std.specs.List.{list_all, find}
use Rattle.np_frac.specs.Fractions.{Fraction, plus}
use Rattle.np_model.specs.declared.task.Step.{Step}
use Rattle.np_model.specs.Ground.{same_step}
use Rattle.np_model.specs.States.{State, is_among, state_of}
use Rattle.np_model.specs.Conditions.{compares, with_sign}
use Rattle.np_model.specs.Values.{of_both}
use Rattle.np_linear.specs.Linears.{zero, linear_value, value_in}
use Rattle.np_bind.specs.declared.bound.BoundCond.{BoundCond}
use Rattle.np_bind.specs.declared.bound.BoundCond.TheVariants.{Atom, Compare, Never}
use Rattle.np_bind.specs.declared.bound.BoundStep.{BoundStep}
use Rattle.np_bind.specs.declared.bound.BoundParts.{BoundParts}
use Rattle.np_bind.specs.Grounding.{number_on}

-- whether a condition holds in a state
abbrev pub bound_holds : State → BoundCond → Bool
bound_holds s (Atom positive a) = with_sign positive (s.has a)
bound_holds s (Compare op l) = compares op (linear_value (value_in s) l) zero
bound_holds s Never = false

-- whether a bound step is applicable: its conditions all hold
abbrev pub is_bound_applicable : BoundStep → State → Bool
is_bound_applicable b s = list_all (bound_holds s) b.needs

-- the state after a bound step
abbrev pub bound_after : BoundStep → State → State
bound_after b s = record {
  has = λ a. is_among b.adds a || (s.has a && not (is_among b.deletes a));
  value = λ t. option_map (λ v. plus v (number_on b.changes t)) (s.value t);
}

-- the state after a bound step that is applicable
abbrev pub bound_next_of : BoundStep → State → Option State
bound_next_of b s = if is_bound_applicable b s then Some (bound_after b s) else None

-- the bound step of a step of the task
abbrev pub step_among : List BoundStep → Step → Option BoundStep
step_among steps step = find (λ b. same_step step b.step) steps

-- the state after a step that is kept and applicable
abbrev pub bound_next : List BoundStep → Step → State → Option State
bound_next bound step s = option_and_then (λ b. bound_next_of b s) (step_among bound step)

-- the state after steps, each kept, and applicable in its turn
abbrev pub bound_run_from : List BoundStep → List Step → State → Option State
bound_run_from bound [] s = Some s
bound_run_from bound (step ∷ steps) s = option_and_then (bound_run_from bound steps) (bound_next bound step s)

-- the cost of a step that is kept
abbrev pub bound_cost : List BoundStep → Step → Option Fraction
bound_cost bound step = option_map (λ b. b.cost) (step_among bound step)

-- what steps cost together, each kept, and applicable in its turn
abbrev pub bound_cost_from : List BoundStep → List Step → State → Option Fraction
bound_cost_from bound [] s = Some zero
bound_cost_from bound (step ∷ steps) s =
    option_and_then (λ t. of_both plus (bound_cost bound step) (bound_cost_from bound steps t)) (bound_next bound step s)

-- the start of a bound task
abbrev pub bound_start : BoundParts → State
bound_start bound = state_of bound.atoms bound.values

-- whether the goal holds
abbrev pub is_bound_goal : BoundParts → State → Bool
is_bound_goal bound s = list_all (bound_holds s) bound.goal

-- a list of steps is a plan of a bound task, of this cost
pub record IsBoundPlan (bound : BoundParts) (steps : List Step) (cost : Fraction) : Type 0 where
  pub end : State
  pub runs : bound_run_from bound.steps steps (bound_start bound) ≡ Some end
  pub goal : IsTrue (is_bound_goal bound end)
  pub costs : bound_cost_from bound.steps steps (bound_start bound) ≡ Some cost
