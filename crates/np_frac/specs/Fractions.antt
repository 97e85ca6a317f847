-- Fractions in lowest terms, without a limit of size. So two fractions are the same number exactly where they are equal.
use Rattle.std.specs.Prelude.{◌≡◌, ℕ, zero, suc, ◌*◌, ◌/◌, ◌<◌, ◌==◌, Bool, true, false, ◌&&◌, T, ℤ, pos, negsuc, neg_ℤ, ◌+ℤ◌, ◌*ℤ◌, int_div, unsigned_abs, nat_lt}
use Rattle.std.proofs.Common.{refl, sym, ap, subst, ◌∙◌, arith, lit<}
use Rattle.std.specs.declared.cmp.Ordering.{Ordering}
use Rattle.std.specs.Ordering.{int_cmp, int_eq}
use Rattle.std.specs.Coded.{Coded, coded_ℤ, coded_ℕ, coded×}
use Rattle.std.proofs.lemmas.Int.{ints}
use lib.Dec.{T_prop, lt→ltb, eqb→eq, ltb→lt}
use Rattle.np_frac.specs.Gcd.{gcd, gcd-quotients, gcd-quotient_pos, gcd-one}
use base.Stored.{coded_via}

-- the denominator is positive and has no divisor in common with the numerator
abbrev pub is_lowest : ℤ → ℕ → Bool
is_lowest num den = nat_lt 0 den && (gcd (unsigned_abs num) den == 1)

-- a whole number over a positive whole number, in lowest terms
pub record Fraction : Type 0 where
  pub num : ℤ
  pub den : ℕ
  pub lowest : T (is_lowest num den)

-- two truths hold together
both : (a b : Bool) → T a → T b → T (a && b)
both true b p q = q
both false b p q = absurd p

-- the first of two truths
first : (a b : Bool) → T (a && b) → T a
first true b p = tt
first false b p = absurd p

-- the second of two truths
second : (a b : Bool) → T (a && b) → T b
second true b p = p
second false b p = absurd p

-- lowest terms, from what they mean
pub lowest_from : (n : ℤ) (d : ℕ) → 0 < d → gcd (unsigned_abs n) d ≡ 1 → T (is_lowest n d)
lowest_from n d h e = both (nat_lt 0 d) (gcd (unsigned_abs n) d == 1) (lt→ltb 0 d h) (subst (λ (g : ℕ). T (g == 1)) (sym e) tt)

-- the denominator in lowest terms is positive
pub den_pos : (n : ℤ) (d : ℕ) → T (is_lowest n d) → 0 < d
den_pos n d t = ltb→lt 0 d (first (nat_lt 0 d) (gcd (unsigned_abs n) d == 1) t)

-- no other divisor than 1 is shared in lowest terms
pub coprime : (n : ℤ) (d : ℕ) → T (is_lowest n d) → gcd (unsigned_abs n) d ≡ 1
coprime n d t = eqb→eq _ 1 (second (nat_lt 0 d) (gcd (unsigned_abs n) d == 1) t)

-- equal numerators and denominators make equal fractions
pub same_fraction : (a b : Fraction) → a.num ≡ b.num → a.den ≡ b.den → a ≡ b
same_fraction a b e f = subst P e (λ d g. subst (Q a.num) g (λ p. ap (λ (t : T (is_lowest a.num a.den)). make a.num a.den t) (T_prop (is_lowest a.num a.den) a.lowest p))) b.den f b.lowest
  where
    make : (n : ℤ) (d : ℕ) → T (is_lowest n d) → Fraction
    make n d t = record { num = n; den = d; lowest = t }

    Q : ℤ → ℕ → Type 0
    Q n d = (p : T (is_lowest n d)) → a ≡ record { num = n; den = d; lowest = p }

    P : ℤ → Type 0
    P n = (d : ℕ) → a.den ≡ d → Q n d

-- a fraction is stored as its two numbers
abbrev pub fraction_code : Coded Fraction
fraction_code =
    coded_via (coded× coded_ℤ coded_ℕ) (λ f. (f.num, f.den)) (λ a b e. same_fraction a b (ap (λ p. p.0) e) (ap (λ p. p.1) e))

-- a negative numerator has the quotient of its size
quotient_pos : (a g : ℕ) → unsigned_abs (neg_ℤ (pos (suc a / g))) ≡ suc a / g
quotient_pos a g = abs_neg (suc a / g)
  where
    abs_neg : (n : ℕ) → unsigned_abs (neg_ℤ (pos n)) ≡ n
    abs_neg zero = refl
    abs_neg (suc n) = refl

-- the size of a quotient is the quotient of the size
pub abs_quotient : (n : ℤ) (g : ℕ) → unsigned_abs (int_div n (pos g)) ≡ unsigned_abs n / g
abs_quotient (pos a) g = refl
abs_quotient (negsuc a) g = quotient_pos a g

-- dividing both by the greatest common divisor gives lowest terms
pub reduced_lowest : (n : ℤ) (d : ℕ) → 0 < d → T (is_lowest (int_div n (pos (gcd (unsigned_abs n) d))) (d / gcd (unsigned_abs n) d))
reduced_lowest n d h =
    let g : ℕ = gcd (unsigned_abs n) d in
    let is : gcd (unsigned_abs (int_div n (pos g))) (d / g) ≡ 1 = ap (λ m. gcd m (d / g)) (abs_quotient n g) ∙ gcd-quotients (unsigned_abs n) d h in
    lowest_from (int_div n (pos g)) (d / g) (gcd-quotient_pos (unsigned_abs n) d h) is

-- a whole number over 1 is in lowest terms
pub whole_lowest : (n : ℤ) → T (is_lowest n 1)
whole_lowest n = lowest_from n 1 (lit< tt) (gcd-one (unsigned_abs n))

-- the fraction of a whole number
unfoldable pub whole : ℤ → Fraction
whole n = record { num = n; den = 1; lowest = whole_lowest n }

-- a successor is positive
pub positive : (d : ℕ) → 0 < suc d
positive d = omega arith

-- a whole number over another that is positive, in lowest terms
unfoldable pub over : ℤ → ℕ → Fraction
over n zero = whole (pos 0)
over n (suc d) = record {
  num = int_div n (pos (gcd (unsigned_abs n) (suc d)));
  den = suc d / gcd (unsigned_abs n) (suc d);
  lowest = reduced_lowest n (suc d) (positive d);
}

-- the exact sum
unfoldable pub plus : Fraction → Fraction → Fraction
plus a b = over ((a.num *ℤ pos b.den) +ℤ (b.num *ℤ pos a.den)) (a.den * b.den)

-- the exact difference
unfoldable pub minus : Fraction → Fraction → Fraction
minus a b = over ((a.num *ℤ pos b.den) +ℤ (neg_ℤ b.num *ℤ pos a.den)) (a.den * b.den)

-- the exact product
unfoldable pub times : Fraction → Fraction → Fraction
times a b = over (a.num *ℤ b.num) (a.den * b.den)

-- the exact order, by crossed products
abbrev pub fraction_cmp : Fraction → Fraction → Ordering
fraction_cmp a b = int_cmp (a.num *ℤ pos b.den) (b.num *ℤ pos a.den)

-- whether they are the same number
unfoldable pub fraction_eq : Fraction → Fraction → Bool
fraction_eq a b = int_eq a.num b.num && (a.den == b.den)

-- the test for equality tells equal fractions
pub same_from_eq : (a b : Fraction) → fraction_eq a b ≡ true → a ≡ b
unfolding fraction_eq
same_from_eq a b e = same_fraction a b (num_same a.num b.num (first (int_eq a.num b.num) (a.den == b.den) (subst T (sym e) tt))) (eqb→eq a.den b.den (second (int_eq a.num b.num) (a.den == b.den) (subst T (sym e) tt)))
  where
    num_same : (x y : ℤ) → T (int_eq x y) → x ≡ y
    num_same x y t = grind (arith, ints)
