-- What the functions that put a flat task together give, in the words of the definitions. It is scaffolding of proofs, and no part of the statement.
use Rattle.std.specs.Prelude.{◌≡◌, ℕ, ◌<◌, pos, ℤ, List, [], map, All, Result, Ok}
use Rattle.std.specs.Int.{◌∣◌}
use Rattle.np_frac.specs.Fractions.{Fraction}
use Rattle.np_model.specs.declared.task.Atom as model
use Rattle.np_model.specs.declared.task.Term.{Term}
use Rattle.np_linear.specs.Answers.{and_then}
use Rattle.np_bind.specs.declared.bound.Spot.TheVariants.{Value, Goal}
use Rattle.np_bind.specs.declared.bound.BoundParts.{BoundParts}
use Rattle.np_bind.specs.Grounding.{number_on}
use Rattle.np_flat.specs.declared.limits.TheConstants.{CHANGE_SIZE}
use Rattle.np_flat.specs.declared.parts.Parts.{Parts}
use Rattle.np_flat.specs.declared.parts.Subgoal.{Subgoal}
use Rattle.np_flat.specs.declared.state.FlatState.{FlatState}
use Rattle.np_scale.specs.declared.fault.ScaleFault.{ScaleFault}
use Rattle.np_scale.specs.declared.fault.ScaleFault.TheVariants.{NumberWide}
use Rattle.np_scale.specs.Tables.{facts_of, values_of}
use Rattle.np_scale.specs.Wholes.{unit_of, scaled_number}
use Rattle.np_scale.specs.FlatOf.{subgoal_numbers, flat_step}
use Rattle.np_scale.specs.Limits.{Checked, unless, each_checked, is_below, with_conditions, checked_steps}
use Rattle.np_scale.specs.Scaling.{scale_task}
use Rattle.np_scale.specs.Code.{facts_in, numbers_with, IsReady, HasNonzero}

-- ---- the start

-- a scaled start value
abbrev pub checked_value : ℕ → List (Term × Fraction) → Term → Checked
checked_value unit values t = unless (is_below CHANGE_SIZE (scaled_number unit (number_on values t))) (NumberWide (Value t))

-- the scaled start values, or the first fault
abbrev pub checked_values : List Term → ℕ → List (Term × Fraction) → Result (List ℤ) ScaleFault
checked_values terms unit values = and_then (each_checked (checked_value unit values) terms) (λ _. Ok (map (λ t. scaled_number unit (number_on values t)) terms))

-- the start state, or the first fault
abbrev pub checked_state : List model.Atom → List Term → ℕ → List (Term × Fraction) → List model.Atom → Result FlatState ScaleFault
checked_state facts terms unit values atoms = and_then (checked_values terms unit values) (λ numbers. Ok (record { facts = facts_in facts atoms; values = numbers }))

-- the unit makes each start value whole
abbrev pub AreStarts : List Term → ℕ → List (Term × Fraction) → Type 0
AreStarts terms unit values = All (λ t. (number_on values t).den ∣ unit) terms

-- ---- the whole

-- the parts of a flat task with these subgoals and this start
abbrev pub parts_with : List model.Atom → List Term → ℕ → List Subgoal → FlatState → BoundParts → Parts
parts_with facts terms unit known start bound = record {
  unit = pos unit;
  facts = facts;
  values = terms;
  start = start;
  subgoals = known;
  steps = map (flat_step (numbers_with facts terms unit known)) bound.steps;
  goal = subgoal_numbers (numbers_with facts terms unit known) bound.goal;
}

-- the same, or the first fault of steps and the goal
abbrev pub checked_parts : List model.Atom → List Term → ℕ → FlatState → BoundParts → Result Parts ScaleFault
checked_parts facts terms unit start bound =
    and_then (checked_steps facts terms unit [] bound.steps) (λ known.
    and_then (with_conditions Goal facts terms unit known bound.goal) (λ all. Ok (parts_with facts terms unit all start bound)))

-- the flat task with these tables, or the first fault after them
abbrev pub scaled_from : List model.Atom → List Term → ℕ → BoundParts → Result Parts ScaleFault
scaled_from facts terms unit bound =
    and_then (checked_state facts terms unit bound.values bound.atoms) (λ start. checked_parts facts terms unit start bound)

-- the tables of a bound task, which are within their limits
pub record AreTablesOf (bound : BoundParts) (facts : List model.Atom) (terms : List Term) (unit : ℕ) : Type 0 where
  pub facts_are : facts ≡ facts_of bound
  pub terms_are : terms ≡ values_of bound
  pub unit_is : unit ≡ unit_of bound
  pub small : unit < CHANGE_SIZE
  pub rest : scale_task bound ≡ scaled_from facts terms unit bound

-- what the parts of a flat task rest on
pub record ArePartsReady (terms : List Term) (unit : ℕ) (bound : BoundParts) : Type 0 where
  pub small : unit < CHANGE_SIZE
  pub steps : All (IsReady terms unit) bound.steps
  pub goal : All HasNonzero bound.goal
