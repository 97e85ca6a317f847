-- The small flat task keeps what every flat task keeps.
use Rattle.std.proofs.Common.{◌≡◌, ◌≢◌, ℕ, zero, suc, ◌^◌, ◌<◌, ℤ, pos, negsuc, unsigned_abs, List, [], ◌∷◌, length, ap, sym, lit<, lit≤, arith}
use Rattle.std.specs.Prelude.{AllPairs, Contains}
use Rattle.std.proofs.lemmas.List.Elements.{All-nil, All-cons}
use Rattle.np_model.specs.declared.task.Atom.{Atom}
use Rattle.np_model.specs.declared.task.Term.{Term}
use Rattle.np_model.specs.declared.task.Step.{Step}
use Rattle.np_flat.specs.declared.parts.Subgoal.{Subgoal}
use Rattle.np_flat.specs.declared.parts.Subgoal.TheVariants as subgoal
use Rattle.np_flat.specs.declared.parts.FlatStep.{FlatStep}
use Rattle.np_flat.specs.declared.parts.Form.{Form}
use Rattle.np_flat.specs.declared.state.FlatState.{FlatState}
use Rattle.np_flat.specs.Flats.{AreNumbers, AreAmounts, IsForm, IsSubgoal, IsStep, IsFlat}
use Rattle.np_flat.proofs.Ascending.{ascending_nil, ascending_cons}

none : (limit : ℕ) → AreNumbers limit []
none limit = record { ascending = ascending_nil; within = All-nil (λ n. n < limit) }

one : (limit n : ℕ) → n < limit → AreNumbers limit (n ∷ [])
one limit n h = record {
  ascending = ascending_cons n [] (All-nil (λ m. n < m)) ascending_nil;
  within = All-cons (λ m. m < limit) n [] h (All-nil (λ m. m < limit));
}

two : (limit m n : ℕ) → m < n → n < limit → AreNumbers limit (m ∷ n ∷ [])
two limit m n h k = record {
  ascending = ascending_cons m (n ∷ []) (All-cons (λ x. m < x) n [] h (All-nil (λ x. m < x))) (one limit n k).ascending;
  within = All-cons (λ x. x < limit) m (n ∷ []) (omega arith) (one limit n k).within;
}

amount : (limit size n : ℕ) (z : ℤ) → n < limit → z ≢ pos 0 → unsigned_abs z < size → AreAmounts limit size ((n, z) ∷ [])
amount limit size n z h some small = record {
  numbers = one limit n h;
  some = All-cons (λ (a : ℕ × ℤ). a.1 ≢ pos 0) (n, z) [] some (All-nil (λ (a : ℕ × ℤ). a.1 ≢ pos 0));
  small = All-cons (λ (v : ℤ). unsigned_abs v < size) z [] small (All-nil (λ (v : ℤ). unsigned_abs v < size));
}

abbrev pub first : FlatStep
first = record { step = record { action = 0; objects = [] }; needs = 1 ∷ 2 ∷ []; adds = 0 ∷ []; deletes = []; changes = (0, negsuc 0) ∷ []; cost = 1 }

abbrev pub second : FlatStep
second = record { step = record { action = 1; objects = [] }; needs = 0 ∷ []; adds = []; deletes = 0 ∷ []; changes = (1, pos 4) ∷ []; cost = 1 }

first_is : IsStep 1 2 3 first
first_is = record {
  needs = two 3 1 2 (lit< tt) (lit< tt);
  adds = one 1 0 (lit< tt);
  deletes = none 1;
  apart = All-nil (λ p. Contains (0 ∷ []) p → ⊥);
  changes = amount 2 (2 ^ 62) 0 (negsuc 0) (lit< tt) (λ e. cc) (lit< tt);
  cost = lit< tt;
}

second_is : IsStep 1 2 3 second
second_is = record {
  needs = one 3 0 (lit< tt);
  adds = none 1;
  deletes = one 1 0 (lit< tt);
  apart = All-cons (λ p. Contains [] p → ⊥) 0 [] (λ h. omega (arith, h.1)) (All-nil (λ p. Contains [] p → ⊥));
  changes = amount 2 (2 ^ 62) 1 (pos 4) (lit< tt) (λ e. cc) (lit< tt);
  cost = lit< tt;
}

terms_are : AreAmounts 2 (2 ^ 31) ((0, pos 2) ∷ (1, pos 1) ∷ [])
terms_are = record {
  numbers = two 2 0 1 (lit< tt) (lit< tt);
  some = All-cons (λ (a : ℕ × ℤ). a.1 ≢ pos 0) (0, pos 2) ((1, pos 1) ∷ []) (λ e. cc) (All-cons (λ (a : ℕ × ℤ). a.1 ≢ pos 0) (1, pos 1) [] (λ e. cc) (All-nil (λ (a : ℕ × ℤ). a.1 ≢ pos 0)));
  small = All-cons (λ (v : ℤ). unsigned_abs v < 2 ^ 31) (pos 2) (pos 1 ∷ []) (lit< tt) (All-cons (λ (v : ℤ). unsigned_abs v < 2 ^ 31) (pos 1) [] (lit< tt) (All-nil (λ (v : ℤ). unsigned_abs v < 2 ^ 31)));
}

pub form_is : IsForm 2 (record { constant = negsuc 4; terms = (0, pos 2) ∷ (1, pos 1) ∷ [] })
form_is = record { constant = lit< tt; few = lit≤ tt; terms = terms_are }

pub form_stands : (values : ℕ) (form : Form) → values ≡ 2 → form ≡ record { constant = negsuc 4; terms = (0, pos 2) ∷ (1, pos 1) ∷ [] } → IsForm values form
form_stands values form v f = rw (v, f) form_is

distinct_steps : AllPairs (λ (a b : Step). a ≢ b) (first.step ∷ second.step ∷ [])
distinct_steps zero zero d lt h = absurd (omega arith)
distinct_steps zero (suc zero) d lt h = λ e. let numbers : ◌≡◌ {A = ℕ} 0 1 = ap (λ (s : Step). s.action) e in cc
distinct_steps (suc i) zero d lt h = absurd (omega arith)
distinct_steps (suc i) (suc zero) d lt h = absurd (omega arith)
distinct_steps i (suc (suc j)) d lt h = absurd (omega arith)

subgoals_apart : AllPairs (λ (a b : Subgoal). a ≢ b) (subgoal.Fact 0 ∷ subgoal.NotFact 0 ∷ subgoal.Form (record { constant = negsuc 4; terms = (0, pos 2) ∷ (1, pos 1) ∷ [] }) ∷ [])
subgoals_apart zero zero d lt h = absurd (omega arith)
subgoals_apart zero (suc zero) d lt h = λ e. cc
subgoals_apart zero (suc (suc zero)) d lt h = λ e. cc
subgoals_apart (suc i) zero d lt h = absurd (omega arith)
subgoals_apart (suc zero) (suc zero) d lt h = absurd (omega arith)
subgoals_apart (suc zero) (suc (suc zero)) d lt h = λ e. cc
subgoals_apart (suc (suc i)) (suc zero) d lt h = absurd (omega arith)
subgoals_apart (suc (suc i)) (suc (suc zero)) d lt h = absurd (omega arith)
subgoals_apart i (suc (suc (suc j))) d lt h = absurd (omega arith)

pub example_is : (facts : List Atom) (values : List Term) (start : FlatState) (subgoals : List Subgoal) (steps : List FlatStep) (goal : List ℕ)
    → length facts ≡ 1 → length values ≡ 2 → start ≡ record { facts = []; values = pos 3 ∷ negsuc 0 ∷ [] }
    → subgoals ≡ subgoal.Fact 0 ∷ subgoal.NotFact 0 ∷ subgoal.Form (record { constant = negsuc 4; terms = (0, pos 2) ∷ (1, pos 1) ∷ [] }) ∷ []
    → steps ≡ first ∷ second ∷ [] → goal ≡ 0 ∷ 2 ∷ []
    → IsFlat (record { unit = pos 1; facts = facts; values = values; start = start; subgoals = subgoals; steps = steps; goal = goal })
example_is facts values start subgoals steps goal f v s q st g = rw (s, q, st, g) record {
  positive = record { lt = tt };
  unit = lit< tt;
  few_facts = omega (arith, f);
  few_values = omega (arith, v);
  few_subgoals = lit≤ tt;
  few_steps = lit≤ tt;
  start = record { facts_are = none (length facts); count = sym v };
  small_start = All-cons (λ (z : ℤ). unsigned_abs z < 2 ^ 62) (pos 3) (negsuc 0 ∷ []) (lit< tt) (All-cons (λ (z : ℤ). unsigned_abs z < 2 ^ 62) (negsuc 0) [] (lit< tt) (All-nil (λ (z : ℤ). unsigned_abs z < 2 ^ 62)));
  subgoals = rw (f, v) (All-cons (IsSubgoal 1 2) (subgoal.Fact 0) (subgoal.NotFact 0 ∷ subgoal.Form (record { constant = negsuc 4; terms = (0, pos 2) ∷ (1, pos 1) ∷ [] }) ∷ []) (lit< tt)
      (All-cons (IsSubgoal 1 2) (subgoal.NotFact 0) (subgoal.Form (record { constant = negsuc 4; terms = (0, pos 2) ∷ (1, pos 1) ∷ [] }) ∷ []) (lit< tt)
      (All-cons (IsSubgoal 1 2) (subgoal.Form (record { constant = negsuc 4; terms = (0, pos 2) ∷ (1, pos 1) ∷ [] })) [] form_is (All-nil (IsSubgoal 1 2)))));
  distinct_subgoals = subgoals_apart;
  steps = rw (f, v) (All-cons (IsStep 1 2 3) first (second ∷ []) first_is (All-cons (IsStep 1 2 3) second [] second_is (All-nil (IsStep 1 2 3))));
  distinct = distinct_steps;
  goal = two 3 0 2 (lit< tt) (lit< tt);
}
