-- What the operations on linear sums make of their values.
use Rattle.std.proofs.Common.{◌≡◌, pos, Bool, true, false, refl, sym, ◌∙◌, ap, arith, List, [], ◌∷◌, Ok}
use Rattle.std.specs.Prelude.{if◌then◌else◌}
use Rattle.np_frac.specs.Fractions.{Fraction, plus, minus, times}
use Rattle.np_frac.specs.Checked.{plus_fits, minus_fits, times_fits, reciprocal, is_zero}
use Rattle.np_frac.specs.Field.{field, frac, int, sum, rest, product, plus_left_zero, plus-zero, minus_zero, zero_times}
use Rattle.np_frac.specs.Quotients.{zero_is}
use Rattle.np_model.specs.declared.task.Term.{Term}
use Rattle.np_model.specs.Ground.{same_term, same_term-Decides}
use Rattle.np_linear.specs.declared.linear.Linear.{Linear}
use Rattle.np_linear.specs.Answers.{and_then}
use Rattle.np_linear.specs.Linears.{fitting, plus_or_minus, checked_sum, checked_product, zero, with_term, with_multiple, with_multiples, terms_value, linear_value, linear_sum, terms_times, linear_times}
use Rattle.np_linear.proofs.Chains.{goes_on, same_Ok, cause_answers}

-- a number that fits is the number
fitting_is : (b : Bool) (x y : Fraction) → fitting b x ≡ Ok y → x ≡ y
fitting_is true x y e = same_Ok x y e
fitting_is false x y e = cause_answers _ y e

pub sum_is : (up : Bool) (x y z : Fraction) → checked_sum up x y ≡ Ok z → plus_or_minus up x y ≡ z
sum_is true x y z e = fitting_is (plus_fits x y) (plus x y) z e
sum_is false x y z e = fitting_is (minus_fits x y) (minus x y) z e

-- laws of sums and differences alike
new_term : (up : Bool) (c w : Fraction) → plus (times (plus_or_minus up zero c) w) zero ≡ plus_or_minus up zero (times c w)
new_term true c w = field (sum (product (sum (int (pos 0)) (frac c)) (frac w)) (int (pos 0))) (sum (int (pos 0)) (product (frac c) (frac w))) (omega arith)
new_term false c w = field (sum (product (rest (int (pos 0)) (frac c)) (frac w)) (int (pos 0))) (rest (int (pos 0)) (product (frac c) (frac w))) (omega arith)

same_place : (up : Bool) (x c w r : Fraction) → plus (times (plus_or_minus up x c) w) r ≡ plus_or_minus up (plus (times x w) r) (times c w)
same_place true x c w r = field (sum (product (sum (frac x) (frac c)) (frac w)) (frac r)) (sum (sum (product (frac x) (frac w)) (frac r)) (product (frac c) (frac w))) (omega arith)
same_place false x c w r = field (sum (product (rest (frac x) (frac c)) (frac w)) (frac r)) (rest (sum (product (frac x) (frac w)) (frac r)) (product (frac c) (frac w))) (omega arith)

later_place : (up : Bool) (a x y : Fraction) → plus a (plus_or_minus up x y) ≡ plus_or_minus up (plus a x) y
later_place true a x y = field (sum (frac a) (sum (frac x) (frac y))) (sum (sum (frac a) (frac x)) (frac y)) (omega arith)
later_place false a x y = field (sum (frac a) (rest (frac x) (frac y))) (rest (sum (frac a) (frac x)) (frac y)) (omega arith)

no_change : (up : Bool) (x : Fraction) → plus_or_minus up x zero ≡ x
no_change true x = plus-zero x
no_change false x = minus_zero x

both_changes : (up : Bool) (x y z : Fraction) → plus_or_minus up (plus_or_minus up x y) z ≡ plus_or_minus up x (plus y z)
both_changes true x y z = field (sum (sum (frac x) (frac y)) (frac z)) (sum (frac x) (sum (frac y) (frac z))) (omega arith)
both_changes false x y z = field (rest (rest (frac x) (frac y)) (frac z)) (rest (frac x) (sum (frac y) (frac z))) (omega arith)

in_parts : (up : Bool) (a b c d : Fraction) → plus (plus_or_minus up a b) (plus_or_minus up c d) ≡ plus_or_minus up (plus a c) (plus b d)
in_parts true a b c d = field (sum (sum (frac a) (frac b)) (sum (frac c) (frac d))) (sum (sum (frac a) (frac c)) (sum (frac b) (frac d))) (omega arith)
in_parts false a b c d = field (sum (rest (frac a) (frac b)) (rest (frac c) (frac d))) (rest (sum (frac a) (frac c)) (sum (frac b) (frac d))) (omega arith)

-- a term that vanishes was worth nothing
pub term_value : (v : Term → Fraction) (zeros : Bool) (t : Term) (c : Fraction) (xs : List (Term × Fraction)) → terms_value v (with_term zeros t c xs) ≡ plus (times c (v t)) (terms_value v xs)
term_value v true t c xs = refl
term_value v false t c xs = by_zero (is_zero c) refl
  where
    by_zero : (b : Bool) → is_zero c ≡ b → terms_value v (if b then xs else (t, c) ∷ xs) ≡ plus (times c (v t)) (terms_value v xs)
    by_zero true e =
        sym (plus_left_zero (terms_value v xs)) ∙ ap (λ z. plus z (terms_value v xs)) (sym (zero_times (v t)) ∙ ap (λ z. times z (v t)) (sym (zero_is c e)))
    by_zero false e = refl

-- a multiple of a term that is taken in counts
pub multiple_value : (v : Term → Fraction) (zeros up : Bool) (t : Term) (c : Fraction) (xs ys : List (Term × Fraction)) → with_multiple zeros up t c xs ≡ Ok ys → terms_value v ys ≡ plus_or_minus up (terms_value v xs) (times c (v t))
multiple_value v zeros up t c [] ys e =
    goes_on (checked_sum up zero c) (λ s. Ok (with_term zeros t s [])) ys e (λ s is rest_is.
    ap (terms_value v) (sym (same_Ok (with_term zeros t s []) ys rest_is)) ∙ term_value v zeros t s []
    ∙ ap (λ z. plus (times z (v t)) zero) (sym (sum_is up zero c s is)) ∙ new_term up c (v t))
multiple_value v zeros up t c (x ∷ xs) ys e = by_same (λ zs. multiple_value v zeros up t c xs zs) (same_term t x.0) refl e
  where
    by_same : ((zs : List (Term × Fraction)) → with_multiple zeros up t c xs ≡ Ok zs → terms_value v zs ≡ plus_or_minus up (terms_value v xs) (times c (v t)))
        → (b : Bool) → same_term t x.0 ≡ b
        → (if b then and_then (checked_sum up x.1 c) (λ s. Ok (with_term zeros t s xs)) else and_then (with_multiple zeros up t c xs) (λ zs. Ok (x ∷ zs))) ≡ Ok ys
        → terms_value v ys ≡ plus_or_minus up (terms_value v (x ∷ xs)) (times c (v t))
    by_same later true same is =
        goes_on (checked_sum up x.1 c) (λ s. Ok (with_term zeros t s xs)) ys is (λ s one two.
        ap (terms_value v) (sym (same_Ok (with_term zeros t s xs) ys two)) ∙ term_value v zeros t s xs
        ∙ ap (λ z. plus (times z (v t)) (terms_value v xs)) (sym (sum_is up x.1 c s one))
        ∙ same_place up x.1 c (v t) (terms_value v xs)
        ∙ ap (λ z. plus_or_minus up (plus (times x.1 (v z)) (terms_value v xs)) (times c (v t))) ((same_term-Decides t x.0).0 same))
    by_same later false same is =
        goes_on (with_multiple zeros up t c xs) (λ zs. Ok (x ∷ zs)) ys is (λ zs one two.
        ap (terms_value v) (sym (same_Ok (x ∷ zs) ys two))
        ∙ ap (plus (times x.1 (v x.0))) (later zs one)
        ∙ later_place up (times x.1 (v x.0)) (terms_value v xs) (times c (v t)))

-- and so do several
pub multiples_value : (v : Term → Fraction) (up : Bool) (xs ys zs : List (Term × Fraction)) → with_multiples up xs ys ≡ Ok zs → terms_value v zs ≡ plus_or_minus up (terms_value v xs) (terms_value v ys)
multiples_value v up xs [] zs e = ap (terms_value v) (sym (same_Ok xs zs e)) ∙ sym (no_change up (terms_value v xs))
multiples_value v up xs (y ∷ ys) zs e =
    goes_on (with_multiple false up y.0 y.1 xs) (λ ws. with_multiples up ws ys) zs e (λ ws one two.
    multiples_value v up ws ys zs two
    ∙ ap (λ a. plus_or_minus up a (terms_value v ys)) (multiple_value v false up y.0 y.1 xs ws one)
    ∙ both_changes up (terms_value v xs) (times y.1 (v y.0)) (terms_value v ys))

-- the value of a sum or a difference
pub sum_value : (v : Term → Fraction) (up : Bool) (l r m : Linear) → linear_sum up l r ≡ Ok m → linear_value v m ≡ plus_or_minus up (linear_value v l) (linear_value v r)
unfolding linear_sum
sum_value v up l r m e =
    goes_on (with_multiples up l.terms r.terms) _ m e (λ terms one more.
    goes_on (checked_sum up l.constant r.constant) _ m more (λ c two is.
    ap (linear_value v) (sym (same_Ok (record { constant = c; terms = terms }) m is))
    ∙ ap (λ a. plus a c) (multiples_value v up l.terms r.terms terms one)
    ∙ ap (plus (plus_or_minus up (terms_value v l.terms) (terms_value v r.terms))) (sym (sum_is up l.constant r.constant c two))
    ∙ in_parts up (terms_value v l.terms) (terms_value v r.terms) l.constant r.constant))

-- the factor that stands for a multiplication or a division
abbrev pub factor : Bool → Fraction → Fraction
factor false by = by
factor true by = reciprocal by

pub product_is : (over : Bool) (x y z : Fraction) → checked_product over x y ≡ Ok z → times x (factor over y) ≡ z
product_is false x y z e = fitting_is (times_fits x y) (times x y) z e
product_is true x y z e = fitting_is (times_fits x (reciprocal y)) (times x (reciprocal y)) z e

-- a factor of all
one_more : (c k w r : Fraction) → plus (times (times c k) w) (times r k) ≡ times (plus (times c w) r) k
one_more c k w r = field (sum (product (product (frac c) (frac k)) (frac w)) (product (frac r) (frac k))) (product (sum (product (frac c) (frac w)) (frac r)) (frac k)) (omega arith)

both_times : (a b k : Fraction) → plus (times a k) (times b k) ≡ times (plus a b) k
both_times a b k = field (sum (product (frac a) (frac k)) (product (frac b) (frac k))) (product (sum (frac a) (frac b)) (frac k)) (omega arith)

-- the values of a multiple
pub terms_times_value : (v : Term → Fraction) (over : Bool) (by : Fraction) (xs ys : List (Term × Fraction)) → terms_times over by xs ≡ Ok ys → terms_value v ys ≡ times (terms_value v xs) (factor over by)
terms_times_value v over by [] ys e = ap (terms_value v) (sym (same_Ok [] ys e)) ∙ sym (zero_times (factor over by))
terms_times_value v over by (x ∷ xs) ys e =
    goes_on (checked_product over x.1 by) _ ys e (λ c one more.
    goes_on (terms_times over by xs) _ ys more (λ zs two is.
    ap (terms_value v) (sym (same_Ok (with_term false x.0 c zs) ys is)) ∙ term_value v false x.0 c zs
    ∙ ap (λ a. plus (times a (v x.0)) (terms_value v zs)) (sym (product_is over x.1 by c one))
    ∙ ap (plus (times (times x.1 (factor over by)) (v x.0))) (terms_times_value v over by xs zs two)
    ∙ one_more x.1 (factor over by) (v x.0) (terms_value v xs)))

pub linear_times_value : (v : Term → Fraction) (over : Bool) (by : Fraction) (l m : Linear) → linear_times over by l ≡ Ok m → linear_value v m ≡ times (linear_value v l) (factor over by)
unfolding linear_times
linear_times_value v over by l m e =
    goes_on (terms_times over by l.terms) _ m e (λ terms one more.
    goes_on (checked_product over l.constant by) _ m more (λ c two is.
    ap (linear_value v) (sym (same_Ok (record { constant = c; terms = terms }) m is))
    ∙ ap (λ a. plus a c) (terms_times_value v over by l.terms terms one)
    ∙ ap (plus (times (terms_value v l.terms) (factor over by))) (sym (product_is over l.constant by c two))
    ∙ both_times (terms_value v l.terms) l.constant (factor over by)))
