-- The definitions at small tasks, worked by hand: each fact is one that planning by these rules must have.
use Rattle.std.proofs.Common.{◌≡◌, ℤ, pos, ◌+ℤ◌, Bool, true, false, refl, ◌∙◌, ap, arith, [], ◌∷◌, map}
use Rattle.std.specs.Prelude.{if◌then◌else◌, Some, None, codes}
use Rattle.np_frac.specs.Fractions.{whole, plus}
use Rattle.np_frac.specs.Field.{int, sum, field, whole_plus}
use Rattle.np_frac.specs.Order.{whole_cmp}
use Rattle.np_model.specs.declared.task.Op.TheVariants.{AtLeast}
use Rattle.np_model.specs.declared.task.Sum.TheVariants as expr
use Rattle.np_model.specs.declared.task.Cond.TheVariants as cond
use Rattle.np_model.specs.declared.task.Eff.{Eff}
use Rattle.np_model.specs.declared.task.Eff.TheVariants as eff
use Rattle.np_model.specs.declared.task.Step.{Step}
use Rattle.np_model.specs.declared.task.TaskParts.{TaskParts}
use Rattle.np_model.specs.Ground.{same_term}
use Rattle.np_model.specs.States.{State}
use Rattle.np_model.specs.Values.{of_both, sum_of}
use Rattle.np_model.specs.Steps.{amount_of, next}
use Rattle.np_model.specs.Plans.{start_of, IsPlan}
use Rattle.np_model.proofs.Same.{same_state}
use Rattle.np_model.proofs.Expressions.{value_of-Number, value_of-Value}

-- a task with one value x, which is 0 at the start, and one action, which adds 1 to it; the goal is x >= 3
abbrev count : TaskParts
count = record {
  types = record { name = codes "object"; parent = 0 } ∷ [];
  objects = [];
  predicates = [];
  functions = record { name = codes "x"; parameters = []; fixed = false } ∷ [];
  actions = record { name = codes "up"; parameters = []; needs = []; effects = eff.Change true 0 [] (expr.Number (whole (pos 1))) ∷ [] } ∷ [];
  atoms = [];
  values = (record { function = 0; objects = [] }, whole (pos 0)) ∷ [];
  goal = cond.Compare AtLeast (expr.Value 0 []) (expr.Number (whole (pos 3))) ∷ [];
  metric = None;
}

abbrev up : Step
up = record { action = 0; objects = [] }

-- the state in which x has this value
abbrev at : ℤ → State
at n = record { has = λ _. false; value = λ t. if same_term t (record { function = 0; objects = [] }) then Some (whole n) else None }

-- 1 more
grown : (n : ℤ) → plus (whole n) (plus (whole (pos 0)) (whole (pos 1))) ≡ whole (n +ℤ pos 1)
grown n = ap (plus (whole n)) (whole_plus (pos 0) (pos 1)) ∙ whole_plus n (pos 1)

-- the effect of up
abbrev adds_one : Eff
adds_one = eff.Change true 0 [] (expr.Number (whole (pos 1)))

-- what up makes of the value of a term that is x, or isn't
value_grown : (n : ℤ) (s : State) (is_x : Bool) → of_both plus (if is_x then Some (whole n) else None) (sum_of (map (amount_of [] s) (if is_x then adds_one ∷ [] else []))) ≡ (if is_x then Some (whole (n +ℤ pos 1)) else None)
value_grown n s true = rw (value_of-Number [] s (whole (pos 1))) (ap Some (grown n))
value_grown n s false = refl

-- up adds 1
pub next_up : (n : ℤ) → next count up (at n) ≡ Some (at (n +ℤ pos 1))
unfolding next
next_up n =
    rw (value_of-Number [] (at n) (whole (pos 1)))
    (ap Some (same_state _ _ (λ a. refl) (λ t. value_grown n (at n) (same_term t (record { function = 0; objects = [] })))))

-- x is 0 at the start
pub starts_at : start_of count ≡ at (pos 0)
unfolding start_of
starts_at = same_state _ _ (λ a. refl) (λ t. refl)

-- up three times reaches the goal, at a cost of 3
pub three_ups : IsPlan count (up ∷ up ∷ up ∷ []) (whole (pos 3))
three_ups = record {
  end = at (pos 3);
  runs = rw (starts_at, next_up (pos 0), next_up (pos 1), next_up (pos 2)) refl;
  goal = rw (value_of-Value [] (at (pos 3)) 0 [], value_of-Number [] (at (pos 3)) (whole (pos 3)), whole_cmp (pos 3) (pos 3)) refl;
  costs = rw (starts_at, next_up (pos 0), next_up (pos 1), next_up (pos 2)) (ap Some (field (sum (int (pos 1)) (sum (int (pos 1)) (sum (int (pos 1)) (int (pos 0))))) (int (pos 3)) (omega arith)));
}
