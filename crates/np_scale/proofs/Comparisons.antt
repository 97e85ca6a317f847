-- A comparison with 0 holds exactly where all its sides do.
use Rattle.std.proofs.Common.{◌≡◌, true, ◌&&◌, pos, refl, sym, ◌∙◌, ap, arith, List, [], ◌∷◌, map}
use Rattle.std.specs.Ordering.{is_ge, is_gt, is_le, is_lt, is_eq, ordering_reverse}
use Rattle.std.specs.declared.cmp.Ordering.{Ordering}
use Rattle.std.specs.declared.cmp.Ordering.TheVariants as ordering
use Rattle.std.specs.List.{list_all}
use Rattle.std.proofs.Math.Bool.{and-true}
use Rattle.np_frac.specs.Fractions.{Fraction, plus, times, fraction_cmp}
use Rattle.np_frac.specs.Field.{field, frac, int, sum, rest, product, minus_self}
use Rattle.np_frac.specs.Order.{cmp_minus, fraction_cmp_total}
use Rattle.np_model.specs.declared.task.Term.{Term}
use Rattle.np_model.specs.declared.task.Op.{Op}
use Rattle.np_model.specs.declared.task.Op.TheVariants.{Less, Greater, AtMost, AtLeast, Equal}
use Rattle.np_model.specs.Conditions.{compares}
use Rattle.np_model.specs.Values.{negated}
use Rattle.np_linear.specs.declared.linear.Linear.{Linear}
use Rattle.np_linear.specs.Linears.{zero, terms_value, linear_value}
use Rattle.np_scale.specs.Forms.{negated_sum, inequalities_of}
use Rattle.np_scale.proofs.Forms.{side_holds}

-- ---- the value of a negated sum

negated_product : (c x r : Fraction) → plus (times (negated c) x) (negated r) ≡ negated (plus (times c x) r)
negated_product c x r =
    field (sum (product (rest (int (pos 0)) (frac c)) (frac x)) (rest (int (pos 0)) (frac r))) (rest (int (pos 0)) (sum (product (frac c) (frac x)) (frac r))) (omega arith)

negated_plus : (a b : Fraction) → plus (negated a) (negated b) ≡ negated (plus a b)
negated_plus a b = field (sum (rest (int (pos 0)) (frac a)) (rest (int (pos 0)) (frac b))) (rest (int (pos 0)) (sum (frac a) (frac b))) (omega arith)

negated_terms : (v : Term → Fraction) (ts : List (Term × Fraction)) → terms_value v (map (λ t. (t.0, negated t.1)) ts) ≡ negated (terms_value v ts)
negated_terms v [] = sym (minus_self zero)
negated_terms v (t ∷ ts) = ap (plus (times (negated t.1) (v t.0))) (negated_terms v ts) ∙ negated_product t.1 (v t.0) (terms_value v ts)

negated_value : (v : Term → Fraction) (l : Linear) → linear_value v (negated_sum l) ≡ negated (linear_value v l)
negated_value v l = ap (λ x. plus x (negated l.constant)) (negated_terms v l.terms) ∙ negated_plus (terms_value v l.terms) l.constant

-- ---- its comparison

-- a negated number compares with 0 the other way round
negated_cmp : (x : Fraction) → fraction_cmp (negated x) zero ≡ ordering_reverse (fraction_cmp x zero)
negated_cmp x = cmp_minus zero x ∙ fraction_cmp_total.antisymm zero x

at_most_is : (o : Ordering) → is_le o ≡ (is_ge (ordering_reverse o) && true)
at_most_is ordering.Less = refl
at_most_is ordering.Equal = refl
at_most_is ordering.Greater = refl

less_is : (o : Ordering) → is_lt o ≡ (is_gt (ordering_reverse o) && true)
less_is ordering.Less = refl
less_is ordering.Equal = refl
less_is ordering.Greater = refl

equal_is : (o : Ordering) → is_eq o ≡ (is_ge o && (is_ge (ordering_reverse o) && true))
equal_is ordering.Less = refl
equal_is ordering.Equal = refl
equal_is ordering.Greater = refl

-- how the negated sum compares
other_way : (v : Term → Fraction) (l : Linear) → ordering_reverse (fraction_cmp (linear_value v l) zero) ≡ fraction_cmp (linear_value v (negated_sum l)) zero
other_way v l = sym (ap (λ x. fraction_cmp x zero) (negated_value v l) ∙ negated_cmp (linear_value v l))

pub sides_say : (v : Term → Fraction) (op : Op) (l : Linear) → compares op (linear_value v l) zero ≡ list_all (side_holds v) (inequalities_of op l)
sides_say v AtLeast l = sym (and-true (is_ge (fraction_cmp (linear_value v l) zero)))
sides_say v Greater l = sym (and-true (is_gt (fraction_cmp (linear_value v l) zero)))
sides_say v AtMost l = at_most_is (fraction_cmp (linear_value v l) zero) ∙ ap (λ o. is_ge o && true) (other_way v l)
sides_say v Less l = less_is (fraction_cmp (linear_value v l) zero) ∙ ap (λ o. is_gt o && true) (other_way v l)
sides_say v Equal l =
    equal_is (fraction_cmp (linear_value v l) zero) ∙ ap (λ o. is_ge (fraction_cmp (linear_value v l) zero) && (is_ge o && true)) (other_way v l)
