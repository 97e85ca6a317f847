-- The laws of fractions.
use Rattle.std.proofs.Common.{◌≡◌, ℕ, zero, suc, ◌*◌, ◌/◌, ◌<◌, ℤ, pos, negsuc, ◌+ℤ◌, ◌*ℤ◌, neg_ℤ, refl, sym, ◌∙◌, ap, subst, arith, lit<}
use Rattle.std.specs.Prelude.{int_div, unsigned_abs}
use Rattle.std.specs.Int.{◌∣◌}
use Rattle.std.proofs.lemmas.Int.{unsigned_abs-mul}
use native.Mathlib.Nat.{div-mul_cancel, dvd_antisymm, dvd-mul_left, mul-pos}
use Rattle.np_frac.specs.Gcd.{gcd, IsGcd-gcd, dvd_from_coprime}
use Rattle.np_frac.specs.Fractions.{Fraction, over, plus, minus, times, whole, den_pos, coprime, same_fraction}
use Rattle.np_frac.specs.Ring.{var, nat, add, mul, neg, ring, cancel}

-- a/b and c/d are the same number
abbrev pub Same : ℤ → ℕ → ℤ → ℕ → Type 0
Same a b c d = a *ℤ pos d ≡ c *ℤ pos b

-- sameness goes through a third
same_trans : (a : ℤ) (b : ℕ) (c : ℤ) (d : ℕ) (e : ℤ) (f : ℕ) → 0 < d → Same a b c d → Same c d e f → Same a b e f
same_trans a b c d e f h p q =
    cancel (a *ℤ pos f) (e *ℤ pos b) d h
    (ring (mul (mul (var a) (nat f)) (nat d)) (mul (mul (var a) (nat d)) (nat f)) (omega arith)
    ∙ ap (λ n. n *ℤ pos f) p
    ∙ ring (mul (mul (var c) (nat b)) (nat f)) (mul (mul (var c) (nat f)) (nat b)) (omega arith)
    ∙ ap (λ n. n *ℤ pos b) q
    ∙ ring (mul (mul (var e) (nat d)) (nat b)) (mul (mul (var e) (nat b)) (nat d)) (omega arith))

-- in lowest terms the denominator divides each other one
divides_other : (a : ℤ) (b : ℕ) (c : ℤ) (d : ℕ) → gcd (unsigned_abs a) b ≡ 1 → Same a b c d → b ∣ d
divides_other a b c d e p =
    dvd_from_coprime (unsigned_abs a) b d e
    (subst (λ (n : ℕ). b ∣ n) (sym (sym (unsigned_abs-mul a (pos d)) ∙ (ap unsigned_abs p ∙ unsigned_abs-mul c (pos b)))) (dvd-mul_left b (unsigned_abs c)))

-- lowest terms are unique
pub unique : (a b : Fraction) → Same a.num a.den b.num b.den → a ≡ b
unique a b p =
    let d : a.den ≡ b.den = dvd_antisymm
    (divides_other a.num a.den b.num b.den (coprime a.num a.den a.lowest) p)
    (divides_other b.num b.den a.num a.den (coprime b.num b.den b.lowest) (sym p)) in
    same_fraction a b (cancel a.num b.num b.den (den_pos b.num b.den b.lowest) (p ∙ ap (λ n. b.num *ℤ pos n) d)) d

-- an exact quotient times the divisor
pub times_quotient : (n : ℤ) (g : ℕ) → g ∣ unsigned_abs n → int_div n (pos g) *ℤ pos g ≡ n
times_quotient (pos a) g h = ap pos (div-mul_cancel g h)
times_quotient (negsuc a) g h =
    ring (mul (neg (nat (suc a / g))) (nat g)) (neg (nat (suc a / g * g))) (omega arith)
    ∙ ap (λ m. neg_ℤ (pos m)) (div-mul_cancel g h)

-- `over` is the same number
pub over_same : (n : ℤ) (d : ℕ) → 0 < d → Same (over n d).num (over n d).den n d
unfolding over
over_same n zero h = absurd (omega arith)
over_same n (suc d) h =
    let g : ℕ = gcd (unsigned_abs n) (suc d) in
    let is : (int_div n (pos g) *ℤ pos g ≡ n) = times_quotient n g (IsGcd-gcd (unsigned_abs n) (suc d)).0 in
    let den : suc d / g * g ≡ suc d = div-mul_cancel g (IsGcd-gcd (unsigned_abs n) (suc d)).1 in
    ap (λ m. int_div n (pos g) *ℤ pos m) (sym den)
    ∙ ring (mul (var (int_div n (pos g))) (nat (suc d / g * g))) (mul (mul (var (int_div n (pos g))) (nat g)) (nat (suc d / g))) (omega arith)
    ∙ ap (λ m. m *ℤ pos (suc d / g)) is

-- same numbers reduce to equal fractions
pub over_equal : (a : ℤ) (b : ℕ) (c : ℤ) (d : ℕ) → 0 < b → 0 < d → Same a b c d → over a b ≡ over c d
over_equal a b c d hb hd p =
    unique (over a b) (over c d)
    (same_trans (over a b).num (over a b).den a b (over c d).num (over c d).den hb (over_same a b hb)
    (same_trans a b c d (over c d).num (over c d).den hd p (sym (over_same c d hd))))

-- a fraction is its two numbers
pub over_parts : (a : Fraction) → over a.num a.den ≡ a
over_parts a = unique (over a.num a.den) a (over_same a.num a.den (den_pos a.num a.den a.lowest))

-- ---- sums

-- the denominator is positive
pub den_of : (a : Fraction) → 0 < a.den
den_of a = den_pos a.num a.den a.lowest

-- the sum of same numbers is the same
crossed_sum : (n : ℤ) (m : ℕ) (k : ℤ) (l : ℕ) (a : ℤ) (b : ℕ) (c : ℤ) (d : ℕ) → Same n m a b → Same k l c d → Same ((n *ℤ pos l) +ℤ (k *ℤ pos m)) (m * l) ((a *ℤ pos d) +ℤ (c *ℤ pos b)) (b * d)
crossed_sum n m k l a b c d p q =
    ring (mul (add (mul (var n) (nat l)) (mul (var k) (nat m))) (nat (b * d)))
    (add (mul (mul (var n) (nat b)) (nat (l * d))) (mul (mul (var k) (nat d)) (nat (m * b)))) (omega arith)
    ∙ ap (λ x. (x *ℤ pos (l * d)) +ℤ ((k *ℤ pos d) *ℤ pos (m * b))) p
    ∙ ap (λ x. ((a *ℤ pos m) *ℤ pos (l * d)) +ℤ (x *ℤ pos (m * b))) q
    ∙ ring (add (mul (mul (var a) (nat m)) (nat (l * d))) (mul (mul (var c) (nat l)) (nat (m * b))))
    (mul (add (mul (var a) (nat d)) (mul (var c) (nat b))) (nat (m * l))) (omega arith)

-- the sum of fractions that aren't in lowest terms
pub plus-over : (a : ℤ) (b : ℕ) (c : ℤ) (d : ℕ) → 0 < b → 0 < d → plus (over a b) (over c d) ≡ over ((a *ℤ pos d) +ℤ (c *ℤ pos b)) (b * d)
unfolding plus
plus-over a b c d hb hd =
    over_equal _ _ _ _ (mul-pos (den_of (over a b)) (den_of (over c d))) (mul-pos hb hd)
    (crossed_sum (over a b).num (over a b).den (over c d).num (over c d).den a b c d (over_same a b hb) (over_same c d hd))

-- what a sum is made of
pub plus_parts : (a b : Fraction) → plus a b ≡ over ((a.num *ℤ pos b.den) +ℤ (b.num *ℤ pos a.den)) (a.den * b.den)
unfolding plus
plus_parts a b = refl

-- negated same numbers are the same
same_negated : (n : ℤ) (m : ℕ) (a : ℤ) (b : ℕ) → Same n m a b → Same (neg_ℤ n) m (neg_ℤ a) b
same_negated n m a b p =
    ring (mul (neg (var n)) (nat b)) (neg (mul (var n) (nat b))) (omega arith) ∙ ap neg_ℤ p
    ∙ ring (neg (mul (var a) (nat m))) (mul (neg (var a)) (nat m)) (omega arith)

-- the difference of fractions that aren't in lowest terms
pub minus-over : (a : ℤ) (b : ℕ) (c : ℤ) (d : ℕ) → 0 < b → 0 < d → minus (over a b) (over c d) ≡ over ((a *ℤ pos d) +ℤ (neg_ℤ c *ℤ pos b)) (b * d)
unfolding minus
minus-over a b c d hb hd =
    over_equal _ _ _ _ (mul-pos (den_of (over a b)) (den_of (over c d))) (mul-pos hb hd)
    (crossed_sum (over a b).num (over a b).den (neg_ℤ (over c d).num) (over c d).den a b (neg_ℤ c) d (over_same a b hb) (same_negated (over c d).num (over c d).den c d (over_same c d hd)))

-- the product of fractions that aren't in lowest terms
pub times-over : (a : ℤ) (b : ℕ) (c : ℤ) (d : ℕ) → 0 < b → 0 < d → times (over a b) (over c d) ≡ over (a *ℤ c) (b * d)
unfolding times
times-over a b c d hb hd =
    over_equal _ _ _ _ (mul-pos (den_of (over a b)) (den_of (over c d))) (mul-pos hb hd)
    (crossed (over a b).num (over a b).den (over c d).num (over c d).den a b c d (over_same a b hb) (over_same c d hd))
  where
    crossed : (n : ℤ) (m : ℕ) (k : ℤ) (l : ℕ) (a : ℤ) (b : ℕ) (c : ℤ) (d : ℕ) → Same n m a b → Same k l c d → Same (n *ℤ k) (m * l) (a *ℤ c) (b * d)
    crossed n m k l a b c d p q =
        ring (mul (mul (var n) (var k)) (nat (b * d))) (mul (mul (var n) (nat b)) (mul (var k) (nat d))) (omega arith)
        ∙ ap (λ x. x *ℤ (k *ℤ pos d)) p
        ∙ ap (λ x. (a *ℤ pos m) *ℤ x) q
        ∙ ring (mul (mul (var a) (nat m)) (mul (var c) (nat l))) (mul (mul (var a) (var c)) (nat (m * l))) (omega arith)

-- a whole number is itself over 1
pub whole-over : (n : ℤ) → whole n ≡ over n 1
unfolding whole
whole-over n = unique (whole n) (over n 1) (sym (over_same n 1 (lit< tt)))

-- what a product is made of
pub times_parts : (a b : Fraction) → times a b ≡ over (a.num *ℤ b.num) (a.den * b.den)
unfolding times
times_parts a b = refl

-- and the other way round
pub over_whole : (n : ℤ) → over n 1 ≡ whole n
over_whole n = sym (whole-over n)
