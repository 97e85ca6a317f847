-- The order of fractions under sums, products and reciprocals.
use Rattle.std.proofs.Common.{◌≡◌, ℕ, zero, suc, ◌*◌, true, false, ℤ, pos, negsuc, ◌*ℤ◌, ◌<ℤ◌, refl, sym, ap, subst, ◌∙◌, arith, lit<}
use Rattle.std.specs.declared.cmp.Ordering.TheVariants.{Less, Equal, Greater}
use Rattle.std.specs.declared.cmp.Ordering.{Ordering}
use Rattle.std.specs.Ordering.{is_gt, is_lt, is_eq, ordering_reverse}
use Rattle.std.proofs.lemmas.Cmp.{upto, int_ranked}
use Rattle.std.proofs.lemmas.Int.{ints}
use native.Mathlib.Nat.{mul-pos}
use Rattle.np_frac.specs.Fractions.{Fraction, whole, over, plus, minus, times, fraction_cmp}
use Rattle.np_frac.specs.Checked.{reciprocal, ratio}
use Rattle.np_frac.specs.Ring.{nat, mul, ring}
use Rattle.np_frac.specs.Laws.{den_of, over_parts, over_equal, times-over, over_whole}
use Rattle.np_frac.specs.Field.{times_assoc, times_comm, times-one, times_zero, plus-zero, plus_left_zero, plus_comm, plus-minus}
use Rattle.np_frac.specs.Order.{fraction_cmp_total, same_from_cmp, cmp_plus, cmp_times, cmp_self, whole_cmp}
use Rattle.np_simplex.specs.Tableau.{nought, is_above}
use Rattle.np_simplex.specs.Answers.{AtMost}

-- 1
abbrev pub one : Fraction
one = whole (pos 1)

-- an amount is at most itself
pub most_self : (a : Fraction) → AtMost a a
most_self a = record { is = ap is_gt (cmp_self a) }

-- equal amounts are at most each other
pub most_same : (a b : Fraction) → a ≡ b → AtMost a b
most_same a b e = subst (λ x. AtMost a x) e (most_self a)

-- through a third
pub most_trans : {a b c : Fraction} → AtMost a b → AtMost b c → AtMost a c
most_trans {a} {b} {c} h k = record { is = upto fraction_cmp_total a b c h.is k.is }

-- what isn't above 0 is at most 0
pub not_above : (a : Fraction) → is_above a ≡ false → AtMost a nought
not_above a h = record { is = h }

-- a number above 0 has a numerator above 0
pub above_num : (a : Fraction) → is_above a ≡ true → pos 0 <ℤ a.num
unfolding whole
above_num a h = from_cmp a.num a.den (int_ranked (a.num *ℤ pos 1) (pos 0 *ℤ pos a.den) Greater (greater_from (fraction_cmp a nought) h))
  where
    greater_from : (o : Ordering) → is_gt o ≡ true → Greater ≡ o
    greater_from Less e = cc
    greater_from Equal e = cc
    greater_from Greater e = refl

    from_cmp : (n : ℤ) (d : ℕ) → (pos 0 *ℤ pos d) <ℤ (n *ℤ pos 1) → pos 0 <ℤ n
    from_cmp n d h = omega (arith, ints)

-- a number times its reciprocal
pub times_reciprocal : (a : Fraction) → is_above a ≡ true → times a (reciprocal a) ≡ one
unfolding reciprocal
times_reciprocal a h = with_num a.num (above_num a h) refl
  where
    with_num : (n : ℤ) → pos 0 <ℤ n → a.num ≡ n → times a (ratio (pos a.den) a.num) ≡ one
    with_num (pos zero) k e = absurd (omega (arith, ints))
    with_num (negsuc n) k e = absurd (omega (arith, ints))
    with_num (pos (suc n)) k e =
        ap (λ z. times a (ratio (pos a.den) z)) e
        ∙ ap (λ x. times x (over (pos a.den) (suc n))) (sym (over_parts a))
        ∙ times-over a.num a.den (pos a.den) (suc n) (den_of a) (omega arith)
        ∙ over_equal (a.num *ℤ pos a.den) (a.den * suc n) (pos 1) 1 (mul-pos (den_of a) (omega arith)) (lit< tt)
        (ap (λ z. (z *ℤ pos a.den) *ℤ pos 1) e ∙ ring (mul (mul (nat (suc n)) (nat a.den)) (nat 1)) (mul (nat 1) (nat (a.den * suc n))) (omega arith))
        ∙ over_whole (pos 1)

-- what is above 0 has a numerator above 0
below_num : (c : Fraction) → fraction_cmp nought c ≡ Less → pos 0 <ℤ c.num
unfolding whole
below_num c f = below c.num c.den (int_ranked (pos 0 *ℤ pos c.den) (c.num *ℤ pos 1) Less (sym f))
  where
    below : (n : ℤ) (d : ℕ) → (pos 0 *ℤ pos d) <ℤ (n *ℤ pos 1) → pos 0 <ℤ n
    below n d l = omega (arith, ints)

-- a factor that isn't negative keeps the order
pub most_times : (a b c : Fraction) → AtMost nought c → AtMost a b → AtMost (times a c) (times b c)
most_times a b c h k = by_sign (fraction_cmp nought c) refl
  where
    by_sign : (o : Ordering) → fraction_cmp nought c ≡ o → AtMost (times a c) (times b c)
    by_sign Greater e = absurd (let f : is_gt (fraction_cmp nought c) ≡ true = ap is_gt e in let g : is_gt
        (fraction_cmp nought c) ≡ false = h.is in cc)
    by_sign Equal e =
        let z : nought ≡ c = same_from_cmp nought c e in
        most_same (times a c) (times b c) (ap (λ x. times a x) (sym z) ∙ times_zero a ∙ sym (ap (λ x. times b x) (sym z) ∙ times_zero b))
    by_sign Less e = record { is = ap is_gt (cmp_times a b c (below_num c e)) ∙ k.is }

-- the order turned round
turned_gt : (o : Ordering) → is_gt o ≡ true → is_gt (ordering_reverse o) ≡ false
turned_gt Less e = cc
turned_gt Equal e = cc
turned_gt Greater e = refl

-- a number above another is at least that
pub above_most : (a b : Fraction) → is_gt (fraction_cmp a b) ≡ true → AtMost b a
above_most a b h = record { is = ap is_gt (fraction_cmp_total.antisymm b a) ∙ turned_gt (fraction_cmp a b) h }

-- a number below another is at most that
pub less_most : (a b : Fraction) → is_lt (fraction_cmp a b) ≡ true → AtMost a b
less_most a b h = record { is = less_gt (fraction_cmp a b) h }
  where
    less_gt : (o : Ordering) → is_lt o ≡ true → is_gt o ≡ false
    less_gt Less e = refl
    less_gt Equal e = refl
    less_gt Greater e = cc

-- equal ones too
pub tied_most : (a b : Fraction) → is_eq (fraction_cmp a b) ≡ true → AtMost a b
tied_most a b h = record { is = tied_gt (fraction_cmp a b) h }
  where
    tied_gt : (o : Ordering) → is_eq o ≡ true → is_gt o ≡ false
    tied_gt Less e = refl
    tied_gt Equal e = refl
    tied_gt Greater e = cc

-- and the other way round
pub tied_most_back : (a b : Fraction) → is_eq (fraction_cmp a b) ≡ true → AtMost b a
tied_most_back a b h = most_same b a (sym (same_from_cmp a b (tied_equal (fraction_cmp a b) h)))
  where
    tied_equal : (o : Ordering) → is_eq o ≡ true → o ≡ Equal
    tied_equal Less e = cc
    tied_equal Equal e = refl
    tied_equal Greater e = cc

-- a number that is neither equal to another nor below it is at least that
pub rest_most : (a b : Fraction) → is_eq (fraction_cmp a b) ≡ false → is_lt (fraction_cmp a b) ≡ false → AtMost b a
rest_most a b h k = above_most a b (rest_gt (fraction_cmp a b) h k)
  where
    rest_gt : (o : Ordering) → is_eq o ≡ false → is_lt o ≡ false → is_gt o ≡ true
    rest_gt Less e f = cc
    rest_gt Equal e f = cc
    rest_gt Greater e f = refl

-- the same summand on both sides
pub most_plus : (a b c : Fraction) → AtMost a b → AtMost (plus a c) (plus b c)
most_plus a b c h = record { is = ap is_gt (cmp_plus a b c) ∙ h.is }

-- and on the other side
pub most_plus_both : (a b c d : Fraction) → AtMost a b → AtMost c d → AtMost (plus a c) (plus b d)
most_plus_both a b c d h k =
    most_trans (most_plus a b c h) (most_trans (most_same (plus b c) (plus c b) (plus_comm b c))
    (most_trans (most_plus c d b k) (most_same (plus d b) (plus b d) (plus_comm d b))))

-- a product of numbers that aren't negative
pub most_product : (a b : Fraction) → AtMost nought a → AtMost nought b → AtMost nought (times a b)
most_product a b h k = most_trans (most_same nought (times nought b) (sym (times_comm nought b ∙ times_zero b))) (most_times nought a b k h)

-- a difference isn't negative where the second is at most the first
pub most_minus : (a b : Fraction) → AtMost b a → AtMost nought (minus a b)
most_minus a b h = record {
  is = sym (ap is_gt (cmp_plus nought (minus a b) b))
      ∙ ap (λ x. is_gt (fraction_cmp x (plus (minus a b) b))) (plus_left_zero b) ∙ ap (λ x. is_gt (fraction_cmp b x)) (plus-minus a b) ∙ h.is;
}

-- the reciprocal of a number above 0 is above 0
pub reciprocal_above : (a : Fraction) → is_above a ≡ true → is_above (reciprocal a) ≡ true
reciprocal_above a h =
    sym (ap is_gt (cmp_times (reciprocal a) nought a (above_num a h)))
    ∙ ap (λ x. is_gt (fraction_cmp x (times nought a))) (times_comm (reciprocal a) a ∙ times_reciprocal a h)
    ∙ ap (λ x. is_gt (fraction_cmp one x)) (times_comm nought a ∙ times_zero a)
    ∙ ap is_gt (whole_cmp (pos 1) (pos 0))

-- a number is a quotient times the divisor
pub quotient_times : (x a : Fraction) → is_above a ≡ true → times (times x (reciprocal a)) a ≡ x
quotient_times x a h = times_assoc x (reciprocal a) a ∙ ap (λ y. times x y) (times_comm (reciprocal a) a ∙ times_reciprocal a h) ∙ times-one x

-- what a difference that isn't above 0 says
pub most_from_minus : (a b : Fraction) → AtMost (minus a b) nought → AtMost a b
most_from_minus a b h =
    most_trans (most_same a (plus (minus a b) b) (sym (plus-minus a b)))
    (most_trans (most_plus (minus a b) nought b h) (most_same (plus nought b) b (plus_left_zero b)))

-- a number that leaves one that isn't negative
pub most_rest : (a b c : Fraction) → plus a b ≡ c → AtMost nought b → AtMost a c
most_rest a b c e h =
    most_trans (most_same a (plus a nought) (sym (plus-zero a))) (most_trans (most_plus_both a a nought b (most_self a) h) (most_same (plus a b) c e))

-- numbers that compare as equal are one
pub tied_same : (a b : Fraction) → is_eq (fraction_cmp a b) ≡ true → a ≡ b
tied_same a b h = same_from_cmp a b (equal_of (fraction_cmp a b) h)
  where
    equal_of : (o : Ordering) → is_eq o ≡ true → o ≡ Equal
    equal_of Less e = cc
    equal_of Equal e = refl
    equal_of Greater e = cc
