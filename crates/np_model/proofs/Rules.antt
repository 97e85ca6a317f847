-- The rules of planning at small actions, each fact worked by hand.
use Rattle.std.proofs.Common.{arith, ◌≡◌, ℕ, pos, true, false, refl, ◌∙◌, ap, List, [], ◌∷◌}
use Rattle.std.specs.Prelude.{Some, None, codes}
use Rattle.std.specs.List.{list_any}
use Rattle.std.specs.Ordering.{int_eq}
use Rattle.std.proofs.Math.Bool.{and-false}
use Rattle.np_frac.specs.Fractions.{Fraction, whole, plus}
use Rattle.np_frac.specs.Field.{int, sum, rest, frac, field, whole_num}
use Rattle.np_frac.specs.Checked.{is_zero}
use Rattle.np_model.specs.declared.task.Op.TheVariants.{Less, AtLeast}
use Rattle.np_model.specs.declared.task.Atom.{Atom}
use Rattle.np_model.specs.declared.task.Term.{Term}
use Rattle.np_model.specs.declared.task.Sum.{Sum}
use Rattle.np_model.specs.declared.task.Sum.TheVariants as expr
use Rattle.np_model.specs.declared.task.Cond.TheVariants as cond
use Rattle.np_model.specs.declared.task.Eff.{Eff}
use Rattle.np_model.specs.declared.task.Eff.TheVariants as eff
use Rattle.np_model.specs.declared.task.Action.{Action}
use Rattle.np_model.specs.declared.task.Step.{Step}
use Rattle.np_model.specs.declared.task.TaskParts.{TaskParts}
use Rattle.np_model.specs.States.{State}
use Rattle.np_model.specs.Values.{value_of, terms_from}
use Rattle.np_model.specs.Conditions.{holds}
use Rattle.np_model.specs.Steps.{is_step, adds, is_applicable, result_of}
use Rattle.np_model.specs.Plans.{start_of}
use Rattle.np_model.proofs.Expressions.{fold-Value, value_of-Number, value_of-Value, value_of-Div}
use Rattle.np_model.proofs.Comparing.{left_missing}

-- an action without parameters and needs
abbrev doing : List Eff → Action
doing effects = record { name = codes "do"; parameters = []; needs = []; effects = effects }

-- an atom p and a term x without objects
abbrev p : Atom
p = record { predicate = 0; objects = [] }

abbrev x : Term
x = record { function = 0; objects = [] }

-- an atom that an action adds is true afterwards, whether it deletes it too or not
pub added_is_true : (action : Action) (objects : List ℕ) (s : State) (a : Atom) → list_any (adds objects a) action.effects ≡ true → (result_of action objects s).has a ≡ true
added_is_true action objects s a e = rw e refl

-- in either order of the two effects
pub added_and_deleted : (s : State) → (result_of (doing (eff.Add 0 [] ∷ eff.Delete 0 [] ∷ [])) [] s).has p ≡ true
added_and_deleted s = refl

pub deleted_and_added : (s : State) → (result_of (doing (eff.Delete 0 [] ∷ eff.Add 0 [] ∷ [])) [] s).has p ≡ true
deleted_and_added s = refl

-- an atom that is deleted alone is false afterwards
pub deleted_is_false : (s : State) → (result_of (doing (eff.Delete 0 [] ∷ [])) [] s).has p ≡ false
deleted_is_false s = and-false (s.has p)

-- where x has no value, neither x < 1 nor x >= 1 holds
pub neither_holds : (s : State) → s.value x ≡ None → (holds [] s (cond.Compare Less (expr.Value 0 []) (expr.Number (whole (pos 1)))) ≡ false) × (holds [] s (cond.Compare AtLeast (expr.Value 0 []) (expr.Number (whole (pos 1)))) ≡ false)
neither_holds s e =
    (left_missing [] s Less _ _ (value_of-Value [] s 0 [] ∙ e), left_missing [] s AtLeast _ _ (value_of-Value [] s 0 [] ∙ e))

-- two changes of one value add up: 3 more and 1 less are 2 more
pub changes_add_up : (s : State) (v : Fraction) → s.value x ≡ Some v → (result_of (doing (eff.Change true 0 [] (expr.Number (whole (pos 3))) ∷ eff.Change false 0 [] (expr.Number (whole (pos 1))) ∷ [])) [] s).value x ≡ Some (plus v (whole (pos 2)))
changes_add_up s v e =
    rw (e, value_of-Number [] s (whole (pos 3)), value_of-Number [] s (whole (pos 1)))
    (ap Some (field (sum (frac v) (sum (sum (int (pos 0)) (int (pos 3))) (rest (int (pos 0)) (int (pos 1))))) (sum (frac v) (int (pos 2))) (omega arith)))

-- 1 / 0
abbrev one_over_zero : Sum
one_over_zero = expr.Div (expr.Number (whole (pos 1))) (expr.Number (whole (pos 0)))

zero_is_zero : is_zero (whole (pos 0)) ≡ true
zero_is_zero = ap (λ n. int_eq n (pos 0)) (whole_num (pos 0))

pub one_over_zero_is_none : (s : State) → value_of [] s one_over_zero ≡ None
one_over_zero_is_none s =
    value_of-Div [] s (expr.Number (whole (pos 1))) (expr.Number (whole (pos 0)))
    ∙ rw (value_of-Number [] s (whole (pos 1)), value_of-Number [] s (whole (pos 0)), zero_is_zero) refl

-- an amount that divides by 0 is never applicable
pub never_applicable : (s : State) → is_applicable (doing (eff.Change true 0 [] one_over_zero ∷ [])) [] s ≡ false
never_applicable s = rw (one_over_zero_is_none s) refl

-- a term that the metric reads and that is given no value is 0 at the start
pub metric_starts_at_zero : (task : TaskParts) → task.metric ≡ Some (expr.Value 0 []) → task.values ≡ [] → (start_of task).value x ≡ Some (whole (pos 0))
unfolding start_of
metric_starts_at_zero task e f = rw (e, f, fold-Value (List Term) terms_from 0 []) refl

-- types object, place, vehicle and truck, a truck being a vehicle; objects home, a place, and t, a truck; one action, which takes
-- a vehicle and a place
abbrev pub roads : TaskParts
roads = record {
  types =
      record { name = codes "object"; parent = 0 } ∷ record { name = codes "place"; parent = 0 }
      ∷ record { name = codes "vehicle"; parent = 0 } ∷ record { name = codes "truck"; parent = 2 } ∷ [];
  objects = record { name = codes "home"; of = 1 } ∷ record { name = codes "t"; of = 3 } ∷ [];
  predicates = [];
  functions = [];
  actions = record { name = codes "drive"; parameters = 2 ∷ 1 ∷ []; needs = []; effects = [] } ∷ [];
  atoms = [];
  values = [];
  goal = [];
  metric = None;
}

-- the step of an action with these objects
abbrev step : ℕ → List ℕ → Step
step action objects = record { action = action; objects = objects }

-- the truck drives home
pub truck_fits : is_step roads (step 0 (1 ∷ 0 ∷ [])) ≡ true
truck_fits = refl

-- home is no vehicle
pub place_does_not_fit : is_step roads (step 0 (0 ∷ 0 ∷ [])) ≡ false
place_does_not_fit = refl

-- one object for each parameter, each an object of the task
pub too_few_objects : is_step roads (step 0 (1 ∷ [])) ≡ false
too_few_objects = refl

pub too_many_objects : is_step roads (step 0 (1 ∷ 0 ∷ 0 ∷ [])) ≡ false
too_many_objects = refl

pub no_such_object : is_step roads (step 0 (1 ∷ 2 ∷ [])) ≡ false
no_such_object = refl

pub no_such_action : is_step roads (step 1 []) ≡ false
no_such_action = refl
