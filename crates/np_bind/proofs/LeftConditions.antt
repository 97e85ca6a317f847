-- Conditions hold where what is left of them does.
use Rattle.std.proofs.Common.{◌≡◌, ℕ, Bool, true, false, refl, sym, ◌∙◌, ap, subst, List, [], ◌∷◌, ◌++◌, Some, None, Ok, Err, Option, Result}
use Rattle.std.specs.Prelude.{◌&&◌, if◌then◌else◌}
use Rattle.std.specs.List.{list_all}
use Rattle.std.specs.Ordering.{is_lt, is_gt, is_le, is_ge, is_eq}
use Rattle.std.proofs.Math.Bool.{and-true, and-false}
use Rattle.std.proofs.lemmas.List.Folds.{list_all-append}
use Rattle.np_frac.specs.Fractions.{Fraction, minus}
use Rattle.np_frac.specs.Order.{cmp_minus}
use Rattle.np_model.specs.declared.task.Op.{Op}
use Rattle.np_model.specs.declared.task.Op.TheVariants.{Less, Greater, AtMost, AtLeast, Equal}
use Rattle.np_model.specs.declared.task.Term.{Term}
use Rattle.np_model.specs.declared.task.Atom as model
use Rattle.np_model.specs.declared.task.Sum.{Sum}
use Rattle.np_model.specs.declared.task.Cond.{Cond}
use Rattle.np_model.specs.declared.task.Cond.TheVariants as cond
use Rattle.np_model.specs.declared.task.TaskParts.{TaskParts}
use Rattle.np_model.specs.Ground.{atom_of}
use Rattle.np_model.specs.States.{State, is_among}
use Rattle.np_model.specs.Values.{of_both, value_of}
use Rattle.np_model.specs.Conditions.{compares, is_yes, with_sign, holds}
use Rattle.np_model.specs.Tasks.{is_fixed}
use Rattle.np_linear.specs.declared.linear.Linear.{Linear}
use Rattle.np_linear.specs.declared.finding.Finding.{Finding}
use Rattle.np_linear.specs.declared.finding.Finding.TheVariants.{Fails, Missing, NotLinear, Wide}
use Rattle.np_linear.specs.Answers.{and_then}
use Rattle.np_linear.specs.Linears.{zero, is_constant, linear_sum, linear_of, linear_value, value_in}
use Rattle.np_linear.proofs.Readings.{KeepsValues, IfMissing, Means, constant_value, sum_means, then_means, linear_means}
use Rattle.np_bind.specs.declared.bound.BoundCond.{BoundCond}
use Rattle.np_bind.specs.declared.bound.BoundCond.TheVariants.{Compare}
use Rattle.np_bind.specs.Grounding.{left_of_known, left_of_comparison, left_of_atom, difference_of, left_of_condition, left_of_all, or_never}
use Rattle.np_bind.specs.BoundPlans.{bound_holds}

-- a state in which static atoms and values are as at the start, and the same terms have values
pub record Follows (task : TaskParts) (values : List (Term × Fraction)) (s : State) : Type 0 where
  pub keeps : KeepsValues task.functions values s
  pub atoms : (a : model.Atom) → is_fixed task.predicates a.predicate ≡ true → s.has a ≡ is_among task.atoms a

-- what a finding says of a truth
abbrev pub IfFalse : Finding → Bool → Type 0
IfFalse Fails b = b ≡ false
IfFalse Missing b = b ≡ false
IfFalse NotLinear b = Unit {0}
IfFalse Wide b = Unit {0}

-- what is left of conditions says when they hold
abbrev pub Says : State → Bool → Result (List BoundCond) Finding → Type 0
Says s b (Ok bs) = b ≡ list_all (bound_holds s) bs
Says s b (Err e) = IfFalse e b

-- what is known holds or doesn't
known_says : (s : State) (b : Bool) → Says s b (left_of_known b)
known_says s true = refl
known_says s false = refl

atom_says : (s : State) (fixed positive there : Bool) (a : model.Atom) → (fixed ≡ true → s.has a ≡ there) → Says s (with_sign positive (s.has a)) (left_of_atom fixed positive there a)
atom_says s true positive there a h = rw (h refl) (known_says s (with_sign positive there))
atom_says s false positive there a h = sym (and-true (with_sign positive (s.has a)))

-- a comparison with 0
compares_minus : (op : Op) (x y : Fraction) → compares op (minus x y) zero ≡ compares op x y
compares_minus Less x y = ap is_lt (cmp_minus x y)
compares_minus Greater x y = ap is_gt (cmp_minus x y)
compares_minus AtMost x y = ap is_le (cmp_minus x y)
compares_minus AtLeast x y = ap is_ge (cmp_minus x y)
compares_minus Equal x y = ap is_eq (cmp_minus x y)

comparison_says : (s : State) (op : Op) (l : Linear) → Says s (compares op (linear_value (value_in s) l) zero) (left_of_comparison op l)
comparison_says s op l = by_terms (is_constant l) refl
  where
    by_terms : (b : Bool) → is_constant l ≡ b → Says s (compares op (linear_value (value_in s) l) zero) (if b then left_of_known (compares op l.constant zero) else Ok (Compare op l ∷ []))
    by_terms true e = rw (constant_value (value_in s) l e) (known_says s (compares op l.constant zero))
    by_terms false e = sym (and-true (compares op (linear_value (value_in s) l) zero))

-- what is missing makes no condition hold
false_stays : (e : Finding) (o : Option Fraction) (f : Option Fraction → Bool) → f None ≡ false → IfMissing e o → IfFalse e (f o)
false_stays Missing o f n h = ap f h ∙ n
false_stays Fails o f n h = ap f h ∙ n
false_stays NotLinear o f n h = tt
false_stays Wide o f n h = tt

then_says : (s : State) (a : Option Fraction) (b : Result Linear Finding) (f : Option Fraction → Bool) (g : Linear → Result (List BoundCond) Finding)
    → f None ≡ false → ((l : Linear) → Says s (f (Some (linear_value (value_in s) l))) (g l)) → Means (value_in s) a b → Says s (f a) (and_then b g)
then_says s a (Ok l) f g n k h = rw h (k l)
then_says s a (Err e) f g n k h = false_stays e a f n h

-- a difference that may be missing, compared with 0
abbrev with_zero : Op → Option Fraction → Bool
with_zero op None = false
with_zero op (Some d) = compares op d zero

-- a comparison is one of the difference with 0
as_difference : (op : Op) (x y : Option Fraction) → is_yes (of_both (compares op) x y) ≡ with_zero op (of_both minus x y)
as_difference op (Some x) (Some y) = sym (compares_minus op x y)
as_difference op (Some x) None = refl
as_difference op None y = refl

-- the value of a difference
difference_means : (task : TaskParts) (values : List (Term × Fraction)) (objects : List ℕ) (s : State) → KeepsValues task.functions values s
    → (x y : Sum) → Means (value_in s) (of_both minus (value_of objects s x) (value_of objects s y)) (difference_of task values objects x y)
unfolding difference_of
difference_means task values objects s h x y =
    then_means (value_in s) (value_of objects s x) (linear_of task.functions values objects x) (λ o. of_both minus o (value_of objects s y)) (λ l. and_then (linear_of task.functions values objects y) (λ r. linear_sum false l r)) refl
    (λ l. then_means (value_in s) (value_of objects s y) (linear_of task.functions values objects y) (λ o. of_both minus (Some (linear_value (value_in s) l)) o) (λ r. linear_sum false l r) refl
    (λ r. sum_means (value_in s) false l r) (linear_means task.functions values objects s h y))
    (linear_means task.functions values objects s h x)

-- a condition
pub condition_says : (task : TaskParts) (values : List (Term × Fraction)) (objects : List ℕ) (s : State) → Follows task values s
    → (c : Cond) → Says s (holds objects s c) (left_of_condition task values objects c)
condition_says task values objects s h (cond.Atom positive predicate refs) =
    atom_says s (is_fixed task.predicates predicate) positive (is_among task.atoms (atom_of objects predicate refs)) (atom_of objects predicate refs) (h.atoms (atom_of objects predicate refs))
condition_says task values objects s h (cond.Same positive a b) = known_says s _
condition_says task values objects s h (cond.Compare op x y) =
    subst (λ (b : Bool). Says s b (and_then (difference_of task values objects x y) (left_of_comparison op))) (sym (as_difference op (value_of objects s x) (value_of objects s y)))
    (then_says s (of_both minus (value_of objects s x) (value_of objects s y)) (difference_of task values objects x y) (with_zero op) (left_of_comparison op) refl
    (λ d. comparison_says s op d) (difference_means task values objects s h.keeps x y))

-- two together are false where one of them is
pub first_false : (e : Finding) (a b : Bool) → IfFalse e a → IfFalse e (a && b)
first_false Fails a b h = rw h refl
first_false Missing a b h = rw h refl
first_false NotLinear a b h = tt
first_false Wide a b h = tt

pub second_false : (e : Finding) (a b : Bool) → IfFalse e b → IfFalse e (a && b)
second_false Fails a b h = rw h (and-false a)
second_false Missing a b h = rw h (and-false a)
second_false NotLinear a b h = tt
second_false Wide a b h = tt

-- conditions, in their order
both_say : (s : State) (a b : Bool) (r q : Result (List BoundCond) Finding) → Says s a r → Says s b q → Says s (a && b) (and_then r (λ x. and_then q (λ y. Ok (x ++ y))))
both_say s a b (Ok x) (Ok y) h k = rw (h, k) (sym (list_all-append (bound_holds s) x y))
both_say s a b (Ok x) (Err e) h k = second_false e a b k
both_say s a b (Err e) q h k = first_false e a b h

pub conditions_say : (s : State) (test : Cond → Bool) (reading : Cond → Result (List BoundCond) Finding) → ((c : Cond) → Says s (test c) (reading c))
    → (cs : List Cond) → Says s (list_all test cs) (left_of_all reading cs)
conditions_say s test reading k [] = refl
conditions_say s test reading k (c ∷ cs) = both_say s (test c) (list_all test cs) (reading c) (left_of_all reading cs) (k c) (conditions_say s test reading k cs)

-- a condition of the goal
pub never_says : (s : State) (b : Bool) (r : Result (List BoundCond) Finding) → Says s b r → Says s b (or_never r)
never_says s b (Ok bs) h = h
never_says s b (Err Fails) h = h
never_says s b (Err Missing) h = h
never_says s b (Err NotLinear) h = tt
never_says s b (Err Wide) h = tt
