-- The flat task of a bound task, limits aside. This project's own.
use Rattle.std.specs.Prelude.{ℕ, suc, pos, ℤ, unsigned_abs, Bool, false, not, ◌==◌, if◌then◌else◌, List, [], ◌∷◌, map, filter}
use Rattle.std.specs.List.{flat_map}
use Rattle.np_frac.specs.Fractions.{Fraction}
use Rattle.np_frac.specs.Checked.{is_zero}
use Rattle.np_model.specs.declared.task.Atom as model
use Rattle.np_model.specs.declared.task.Term.{Term}
use Rattle.np_model.specs.Ground.{same_atom}
use Rattle.np_model.specs.States.{is_among}
use Rattle.np_bind.specs.declared.bound.BoundCond.{BoundCond}
use Rattle.np_bind.specs.declared.bound.BoundStep.{BoundStep}
use Rattle.np_bind.specs.declared.bound.BoundParts.{BoundParts}
use Rattle.np_bind.specs.Grounding.{number_on}
use Rattle.np_flat.specs.declared.state.FlatState.{FlatState}
use Rattle.np_flat.specs.declared.parts.Subgoal.{Subgoal}
use Rattle.np_flat.specs.declared.parts.Subgoal.TheVariants as subgoal
use Rattle.np_flat.specs.declared.parts.FlatStep.{FlatStep}
use Rattle.np_flat.specs.declared.parts.Parts.{Parts}
use Rattle.np_flat.specs.States.{put_all}
use Rattle.np_flat.specs.Same.{same_form}
use Rattle.np_scale.specs.Tables.{each_once, number_of, conditions_of, facts_of, values_of}
use Rattle.np_scale.specs.Wholes.{unit_of, scaled_number}
use Rattle.np_scale.specs.Forms.{subgoals_in}

-- whether two subgoals are the same
abbrev pub same_subgoal : Subgoal → Subgoal → Bool
same_subgoal (subgoal.Fact p) (subgoal.Fact q) = p == q
same_subgoal (subgoal.Fact p) (subgoal.NotFact q) = false
same_subgoal (subgoal.Fact p) (subgoal.Form g) = false
same_subgoal (subgoal.NotFact p) (subgoal.Fact q) = false
same_subgoal (subgoal.NotFact p) (subgoal.NotFact q) = p == q
same_subgoal (subgoal.NotFact p) (subgoal.Form g) = false
same_subgoal (subgoal.Form f) (subgoal.Fact q) = false
same_subgoal (subgoal.Form f) (subgoal.NotFact q) = false
same_subgoal (subgoal.Form f) (subgoal.Form g) = same_form f g

-- the numbers of a flat task: its facts, values, unit and subgoals
pub record FlatTables : Type 0 where
  pub facts : List model.Atom
  pub terms : List Term
  pub unit : ℕ
  pub subgoals : List Subgoal

-- the subgoals that conditions come to, in order
abbrev pub all_subgoals : List model.Atom → List Term → ℕ → List BoundCond → List Subgoal
all_subgoals facts terms unit conditions = flat_map (subgoals_in facts terms unit) conditions

-- the numbers of a bound task's flat task, each subgoal by its first reading
abbrev pub numbers_of : BoundParts → FlatTables
numbers_of bound = record {
  facts = facts_of bound;
  terms = values_of bound;
  unit = unit_of bound;
  subgoals = each_once same_subgoal [] (all_subgoals (facts_of bound) (values_of bound) (unit_of bound) (conditions_of bound));
}

-- the numbers of the subgoals of conditions, ascending
abbrev pub subgoal_numbers : FlatTables → List BoundCond → List ℕ
subgoal_numbers n conditions = put_all (map (number_of same_subgoal n.subgoals) (all_subgoals n.facts n.terms n.unit conditions)) []

-- the numbers of those atoms that are facts, ascending
abbrev pub fact_numbers : FlatTables → List model.Atom → List ℕ
fact_numbers n atoms = put_all (map (number_of same_atom n.facts) (filter (is_among n.facts) atoms)) []

-- the scaled net changes on the values from this number on, where they aren't 0
abbrev pub changes_from : ℕ → ℕ → List (Term × Fraction) → List Term → List (ℕ × ℤ)
changes_from unit k changes [] = []
changes_from unit k changes (t ∷ ts) =
    if is_zero (number_on changes t) then changes_from unit (suc k) changes ts
    else ((k, scaled_number unit (number_on changes t)) ∷ changes_from unit (suc k) changes ts)

-- a flat step; what it adds it doesn't delete
abbrev pub flat_step : FlatTables → BoundStep → FlatStep
flat_step n b = record {
  step = b.step;
  needs = subgoal_numbers n b.needs;
  adds = fact_numbers n b.adds;
  deletes = fact_numbers n (filter (λ a. not (is_among b.adds a)) b.deletes);
  changes = changes_from n.unit 0 b.changes n.terms;
  cost = unsigned_abs b.cost.num;
}

-- the start
abbrev pub flat_start : FlatTables → BoundParts → FlatState
flat_start n bound = record {
  facts = fact_numbers n bound.atoms;
  values = map (λ t. scaled_number n.unit (number_on bound.values t)) n.terms;
}

-- the flat task with these numbers
abbrev pub flat_with : FlatTables → BoundParts → Parts
flat_with n bound = record {
  unit = pos n.unit;
  facts = n.facts;
  values = n.terms;
  start = flat_start n bound;
  subgoals = n.subgoals;
  steps = map (flat_step n) bound.steps;
  goal = subgoal_numbers n bound.goal;
}

-- the flat task of a bound task
unfoldable pub flat_of : BoundParts → Parts
flat_of bound = flat_with (numbers_of bound) bound
