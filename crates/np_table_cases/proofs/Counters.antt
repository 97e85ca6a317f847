-- The counter keeps what every flat task keeps.
use Rattle.std.proofs.Common.{◌≡◌, ◌≢◌, ℕ, zero, suc, ◌^◌, ◌<◌, ℤ, pos, unsigned_abs, List, [], ◌∷◌, length, sym, lit<, lit≤, arith}
use Rattle.std.specs.Prelude.{AllPairs, Contains}
use Rattle.std.proofs.lemmas.List.Elements.{All-nil, All-cons}
use Rattle.np_model.specs.declared.task.Atom.{Atom}
use Rattle.np_model.specs.declared.task.Term.{Term}
use Rattle.np_flat.specs.declared.limits.TheConstants.{CHANGE_SIZE, COEFFICIENT_SIZE, CONSTANT_SIZE, COST_SIZE}
use Rattle.np_flat.specs.declared.parts.Subgoal.{Subgoal}
use Rattle.np_flat.specs.declared.parts.Subgoal.TheVariants as subgoal
use Rattle.np_flat.specs.declared.parts.FlatStep.{FlatStep}
use Rattle.np_flat.specs.declared.parts.Form.{Form}
use Rattle.np_flat.specs.declared.state.FlatState.{FlatState}
use Rattle.np_flat.specs.Flats.{AreNumbers, AreAmounts, IsSubgoal, IsStep, IsFlat}
use Rattle.np_flat.proofs.Ascending.{ascending_nil, ascending_cons}

none : (limit : ℕ) → AreNumbers limit []
none limit = record { ascending = ascending_nil; within = All-nil (λ n. n < limit) }

zero_alone : AreNumbers 1 (0 ∷ [])
zero_alone = record {
  ascending = ascending_cons 0 [] (All-nil (λ m. 0 < m)) ascending_nil;
  within = All-cons (λ m. m < 1) 0 [] (lit< tt) (All-nil (λ m. m < 1));
}

amount : (size : ℕ) (z : ℤ) → z ≢ pos 0 → unsigned_abs z < size → AreAmounts 1 size ((0, z) ∷ [])
amount size z some small = record {
  numbers = zero_alone;
  some = All-cons (λ (a : ℕ × ℤ). a.1 ≢ pos 0) (0, z) [] some (All-nil (λ (a : ℕ × ℤ). a.1 ≢ pos 0));
  small = All-cons (λ (v : ℤ). unsigned_abs v < size) z [] small (All-nil (λ (v : ℤ). unsigned_abs v < size));
}

one_pair : {X : Type 0} (x : X) → AllPairs (λ a b. a ≢ b) (x ∷ [])
one_pair x zero zero d lt h = absurd (omega arith)
one_pair x (suc i) zero d lt h = absurd (omega arith)
one_pair x i (suc j) d lt h = absurd (omega arith)

abbrev form : ℤ → ℤ → Form
form constant coefficient = record { constant = constant; terms = (0, coefficient) ∷ [] }

abbrev step : ℤ → ℕ → FlatStep
step change cost = record { step = record { action = 0; objects = [] }; needs = []; adds = []; deletes = []; changes = (0, change) ∷ []; cost = cost }

pub counter_is : (facts : List Atom) (values : List Term) (start : FlatState) (subgoals : List Subgoal) (steps : List FlatStep) (goal : List ℕ) (constant coefficient change : ℤ) (cost : ℕ)
    → length facts ≡ 0 → length values ≡ 1 → start ≡ record { facts = []; values = pos 0 ∷ [] } → subgoals ≡ subgoal.Form (record { constant = constant; terms = (0, coefficient) ∷ [] }) ∷ []
    → steps ≡ record { step = record { action = 0; objects = [] }; needs = []; adds = []; deletes = []; changes = (0, change) ∷ []; cost = cost } ∷ [] → goal ≡ 0 ∷ []
    → unsigned_abs constant < CONSTANT_SIZE → coefficient ≢ pos 0 → unsigned_abs coefficient < COEFFICIENT_SIZE → change ≢ pos 0 → unsigned_abs change < CHANGE_SIZE → cost < COST_SIZE
    → IsFlat (record { unit = pos 1; facts = facts; values = values; start = start; subgoals = subgoals; steps = steps; goal = goal })
counter_is facts values start subgoals steps goal constant coefficient change cost f v s q st g few not_zero narrow some small cheap = rw (s, q, st, g) record {
  positive = record { lt = tt };
  unit = lit< tt;
  few_facts = omega (arith, f);
  few_values = omega (arith, v);
  few_subgoals = lit≤ tt;
  few_steps = lit≤ tt;
  start = record { facts_are = none (length facts); count = sym v };
  small_start = All-cons (λ (z : ℤ). unsigned_abs z < 2 ^ 62) (pos 0) [] (lit< tt) (All-nil (λ (z : ℤ). unsigned_abs z < 2 ^ 62));
  subgoals = rw (f, v) (All-cons (IsSubgoal 0 1) (subgoal.Form (form constant coefficient)) [] (record { constant = few; few = lit≤ tt; terms = amount (2 ^ 31) coefficient not_zero narrow }) (All-nil (IsSubgoal 0 1)));
  distinct_subgoals = one_pair (subgoal.Form (form constant coefficient));
  steps = rw (f, v) (All-cons (IsStep 0 1 1) (step change cost) [] (record {
    needs = none 1;
    adds = none 0;
    deletes = none 0;
    apart = All-nil (λ p. Contains [] p → ⊥);
    changes = amount (2 ^ 62) change some small;
    cost = cheap;
  }) (All-nil (IsStep 0 1 1)));
  distinct = one_pair (step change cost).step;
  goal = zero_alone;
}
