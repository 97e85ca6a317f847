-- Comparisons, conditions, references, arithmetic, types and names at small cases, worked by hand.
use Rattle.std.proofs.Common.{◌≡◌, pos, Bool, true, false, refl, ◌∙◌, ap, lit<, List, [], ◌∷◌}
use Rattle.std.specs.Prelude.{Some, codes, not}
use Rattle.std.specs.Ordering.{is_lt, is_gt, is_le, is_ge, is_eq, int_eq}
use Rattle.std.proofs.Math.Bool.{and-false}
use Rattle.np_frac.specs.Fractions.{whole, over, times}
use Rattle.np_frac.specs.Checked.{reciprocal, is_zero}
use Rattle.np_frac.specs.Order.{whole_cmp}
use Rattle.np_frac.specs.Field.{whole_times, whole_num}
use Rattle.np_frac.specs.Laws.{whole-over, times-over, over_equal, over_whole}
use Rattle.np_model.specs.declared.task.Op.TheVariants.{Less, Greater, AtMost, AtLeast, Equal}
use Rattle.np_model.specs.declared.task.Ref.TheVariants.{Object, Parameter}
use Rattle.np_model.specs.declared.task.Atom.{Atom}
use Rattle.np_model.specs.declared.task.Cond.TheVariants as cond
use Rattle.np_model.specs.declared.task.Eff.{Eff}
use Rattle.np_model.specs.declared.task.Eff.TheVariants as eff
use Rattle.np_model.specs.declared.task.Action.{Action}
use Rattle.np_model.specs.declared.task.TypeName.{TypeName}
use Rattle.np_model.specs.Ground.{atom_of}
use Rattle.np_model.specs.States.{State}
use Rattle.np_model.specs.Values.{product_of, quotient_of, every_read_from}
use Rattle.np_model.specs.Conditions.{compares, holds}
use Rattle.np_model.specs.declared.task.Sum.TheVariants as expr
use Rattle.np_model.specs.Steps.{result_of, changes}
use Rattle.np_model.specs.Types.{is_under}
use Rattle.np_model.specs.Names.{is_name}
use Rattle.np_model.specs.Tasks.{is_condition, is_ground_atom, names_predicate, has_parts, has_parts_from, is_effect, is_fixed}
use Rattle.np_model.specs.Plans.{IsAtMost}
use Rattle.np_model.proofs.Expressions.{fold-Add, fold-Value}
use Rattle.np_model.proofs.Counter.{counter}
use Rattle.np_model.proofs.Formed.{is_sum-Value}
use Rattle.np_model.proofs.Rules.{roads}

-- each comparison, at equal numbers and at different ones
pub one_is_less : compares Less (whole (pos 1)) (whole (pos 2)) ≡ true
one_is_less = ap is_lt (whole_cmp (pos 1) (pos 2))

pub two_is_not_less : compares Less (whole (pos 2)) (whole (pos 2)) ≡ false
two_is_not_less = ap is_lt (whole_cmp (pos 2) (pos 2))

pub two_is_greater : compares Greater (whole (pos 2)) (whole (pos 1)) ≡ true
two_is_greater = ap is_gt (whole_cmp (pos 2) (pos 1))

pub two_is_not_greater : compares Greater (whole (pos 2)) (whole (pos 2)) ≡ false
two_is_not_greater = ap is_gt (whole_cmp (pos 2) (pos 2))

pub two_is_at_most_two : compares AtMost (whole (pos 2)) (whole (pos 2)) ≡ true
two_is_at_most_two = ap is_le (whole_cmp (pos 2) (pos 2))

pub three_is_not_at_most_two : compares AtMost (whole (pos 3)) (whole (pos 2)) ≡ false
three_is_not_at_most_two = ap is_le (whole_cmp (pos 3) (pos 2))

pub one_is_not_at_least_two : compares AtLeast (whole (pos 1)) (whole (pos 2)) ≡ false
one_is_not_at_least_two = ap is_ge (whole_cmp (pos 1) (pos 2))

pub one_is_not_two : compares Equal (whole (pos 1)) (whole (pos 2)) ≡ false
one_is_not_two = ap is_eq (whole_cmp (pos 1) (pos 2))

-- the bound of a cost
pub one_bounds_two : IsAtMost (whole (pos 1)) (whole (pos 2))
one_bounds_two = ap is_le (whole_cmp (pos 1) (pos 2))

-- a negative condition holds where the atom is false, and not where it is true
pub not_there : (s : State) → s.has (record { predicate = 0; objects = [] }) ≡ false → holds [] s (cond.Atom false 0 []) ≡ true
not_there s e = ap not e

pub there : (s : State) → s.has (record { predicate = 0; objects = [] }) ≡ true → holds [] s (cond.Atom false 0 []) ≡ false
there s e = ap not e

-- two parameters that stand for different objects are not the same, and a parameter is the object that it stands for
pub different_objects : (s : State) → holds (7 ∷ 8 ∷ []) s (cond.Same true (Parameter 0) (Parameter 1)) ≡ false
different_objects s = refl

pub different_as_asked : (s : State) → holds (7 ∷ 8 ∷ []) s (cond.Same false (Parameter 0) (Parameter 1)) ≡ true
different_as_asked s = refl

pub same_object : (s : State) → holds (7 ∷ 8 ∷ []) s (cond.Same true (Parameter 1) (Object 8)) ≡ true
same_object s = refl

-- references are bound in their order
pub bound_atom : atom_of (5 ∷ 7 ∷ []) 3 (Parameter 1 ∷ Object 4 ∷ []) ≡ record { predicate = 3; objects = 7 ∷ 4 ∷ [] }
bound_atom = refl

-- effects on the objects of the step
abbrev doing_to : List Eff → Action
doing_to effects = record { name = codes "do"; parameters = 0 ∷ []; needs = []; effects = effects }

abbrev p7 : Atom
p7 = record { predicate = 0; objects = 7 ∷ [] }

pub added_to_its_object : (s : State) → (result_of (doing_to (eff.Add 0 (Parameter 0 ∷ []) ∷ [])) (7 ∷ []) s).has p7 ≡ true
added_to_its_object s = refl

pub deleted_from_its_object : (s : State) → (result_of (doing_to (eff.Delete 0 (Parameter 0 ∷ []) ∷ [])) (7 ∷ []) s).has p7 ≡ false
deleted_from_its_object s = and-false (s.has p7)

-- 2 * 3 is 6, and 6 / 2 is 3
pub two_times_three : product_of (Some (whole (pos 2)) ∷ Some (whole (pos 3)) ∷ []) ≡ Some (whole (pos 6))
two_times_three = ap Some (ap (λ x. times x (whole (pos 3))) (whole_times (pos 1) (pos 2)) ∙ whole_times (pos 2) (pos 3))

half : reciprocal (whole (pos 2)) ≡ over (pos 1) 2
unfolding reciprocal whole
half = refl

two_is_not_zero : is_zero (whole (pos 2)) ≡ false
two_is_not_zero = ap (λ n. int_eq n (pos 0)) (whole_num (pos 2))

pub six_over_two : quotient_of (Some (whole (pos 6))) (Some (whole (pos 2))) ≡ Some (whole (pos 3))
six_over_two =
    rw two_is_not_zero
    (ap Some (ap (λ x. times (whole (pos 6)) x) half
    ∙ ap (λ x. times x (over (pos 1) 2)) (whole-over (pos 6))
    ∙ times-over (pos 6) 1 (pos 1) 2 (lit< tt) (lit< tt)
    ∙ over_equal (pos 6) 2 (pos 3) 1 (lit< tt) (lit< tt) refl
    ∙ over_whole (pos 3)))

-- a type lies under its parent's parent, and not under a type beside it
abbrev line : List TypeName
line =
    record { name = codes "object"; parent = 0 } ∷ record { name = codes "a"; parent = 0 }
    ∷ record { name = codes "b"; parent = 1 } ∷ record { name = codes "c"; parent = 2 } ∷ []

pub two_steps_up : is_under line 3 1 ≡ true
two_steps_up = refl

pub not_downward : is_under line 1 3 ≡ false
not_downward = refl

-- names begin with a letter and are no reserved words
pub and_is_no_name : is_name (codes "and") ≡ false
and_is_no_name = refl

pub digit_begins_no_name : is_name (codes "1a") ≡ false
digit_begins_no_name = refl

pub a_name : is_name (codes "a-1_") ≡ true
a_name = refl

-- what names no object and no predicate isn't well-formed
pub no_object_two : is_condition roads [] (cond.Same true (Object 0) (Object 2)) ≡ false
no_object_two = refl

pub no_predicate : is_ground_atom roads (record { predicate = 0; objects = [] }) ≡ false
no_predicate = refl

-- an effect that deletes names its predicate
pub deleting_names : names_predicate 0 (eff.Delete 0 []) ≡ true
deleting_names = refl

-- a change is of the step's object's value
pub changed_of_its_object : changes (7 ∷ []) (record { function = 0; objects = 7 ∷ [] }) (eff.Change true 0 (Parameter 0 ∷ []) (expr.Number (whole (pos 1)))) ≡ true
changed_of_its_object = refl

-- a sum of one part is none
pub one_part : has_parts (expr.Add (expr.Number (whole (pos 1)) ∷ [])) ≡ false
one_part = fold-Add Bool has_parts_from (expr.Number (whole (pos 1)) ∷ [])

-- an amount reads no value that changes
pub amount_that_changes : is_effect counter [] (eff.Change true 0 [] (expr.Value 1 [])) ≡ false
amount_that_changes =
    rw (is_sum-Value counter [] 1 [], fold-Value Bool (every_read_from (λ f _. is_fixed counter.functions f)) 1 []) refl
