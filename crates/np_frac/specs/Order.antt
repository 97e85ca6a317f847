-- The order of fractions.
use Rattle.std.proofs.Common.{◌≡◌, ℕ, ◌+◌, ◌*◌, ◌<◌, ℤ, pos, ◌+ℤ◌, ◌*ℤ◌, ◌<ℤ◌, refl, sym, ◌∙◌, ap, arith, lit<}
use Rattle.std.specs.declared.cmp.Ordering.TheVariants.{Less, Equal, Greater}
use Rattle.std.specs.declared.cmp.Ordering.{Ordering}
use Rattle.std.specs.Ordering.{int_cmp}
use Rattle.std.proofs.lemmas.Cmp.{and_equiv, on_equiv, int_eq_equiv, nat_eq_equiv}
use Rattle.std.specs.Cmp.{IsEquivalence, IsTotalOrder}
use Rattle.std.proofs.lemmas.Cmp.{int_cmp_total, int_ranked, by_ranked}
use Rattle.std.proofs.lemmas.Int.{ints}
use borrow.Author.Differences.{up, down}
use native.Mathlib.Nat.{mul-pos, mul-lt-mul_of_pos_right, lt_of_mul-lt-mul_right}
use Rattle.std.specs.Prelude.{Bool, true, false, ◌&&◌, ◌==◌, unsigned_abs}
use Rattle.std.proofs.lemmas.Bool.Decides.{nat_tests}
use Rattle.std.specs.Ordering.{is_eq, int_eq, as_partial_cmp}
use Rattle.std.specs.Cmp.{IsPartialOrder, po}
use Rattle.np_frac.specs.Fractions.{fraction_eq, same_from_eq, Fraction, over, plus, minus, times, whole, fraction_cmp}
use Rattle.np_frac.specs.Ring.{var, nat, add, mul, ring}
use Rattle.np_frac.specs.Laws.{Same, den_of, unique, over_same, times_parts}
use Rattle.np_frac.specs.Field.{frac, sum, amount_is, plus-minus, plus_left_zero}

-- a positive factor keeps the order
pub lt_scaled : (x y : ℤ) (k : ℕ) → 0 < k → x <ℤ y → (x *ℤ pos k) <ℤ (y *ℤ pos k)
lt_scaled x y k h l =
    let m : up x + down y < up y + down x = omega (arith, ints) in
    omega (arith, ints, mul-lt-mul_of_pos_right m h)

-- and can be taken out
pub lt_unscaled : (x y : ℤ) (k : ℕ) → (x *ℤ pos k) <ℤ (y *ℤ pos k) → x <ℤ y
lt_unscaled x y k l =
    let m : (up x + down y) * k < (up y + down x) * k = omega (arith, ints) in
    omega (arith, ints, lt_of_mul-lt-mul_right k m)

-- the answers that the order of numbers gives: the first is below the second
less : (x y : ℤ) → x <ℤ y → int_cmp x y ≡ Less
less x y h = grind (arith, ints)

-- the second is below the first
greater : (x y : ℤ) → y <ℤ x → int_cmp x y ≡ Greater
greater x y h = grind (arith, ints)

-- both are the same
tied : (x y : ℤ) → x ≡ y → int_cmp x y ≡ Equal
tied x y h = grind (arith, ints)

-- comparing with a positive factor on both sides
pub cmp_scaled : (x y : ℤ) (k : ℕ) → 0 < k → int_cmp (x *ℤ pos k) (y *ℤ pos k) ≡ int_cmp x y
cmp_scaled x y k h =
    by_ranked (x <ℤ y) (x ≡ y) (y <ℤ x) (int_cmp x y) (int_ranked x y (int_cmp x y) refl)
    (λ o l. less _ _ (lt_scaled x y k h l) ∙ sym o)
    (λ o e. tied _ _ (ap (λ z. z *ℤ pos k) e) ∙ sym o)
    (λ o g. greater _ _ (lt_scaled y x k h g) ∙ sym o)

-- comparing with a summand on both sides
pub cmp_shifted : (x y z : ℤ) → int_cmp (x +ℤ z) (y +ℤ z) ≡ int_cmp x y
cmp_shifted x y z =
    by_ranked (x <ℤ y) (x ≡ y) (y <ℤ x) (int_cmp x y) (int_ranked x y (int_cmp x y) refl)
    (λ o l. less (x +ℤ z) (y +ℤ z) (omega (arith, ints)) ∙ sym o)
    (λ o e. tied (x +ℤ z) (y +ℤ z) (ap (λ n. n +ℤ z) e) ∙ sym o)
    (λ o g. greater (x +ℤ z) (y +ℤ z) (omega (arith, ints)) ∙ sym o)

-- the order of two fractions that aren't in lowest terms
pub cmp-over : (a : ℤ) (b : ℕ) (c : ℤ) (d : ℕ) → 0 < b → 0 < d → fraction_cmp (over a b) (over c d) ≡ int_cmp (a *ℤ pos d) (c *ℤ pos b)
cmp-over a b c d hb hd = crossed (over a b).num (over a b).den (over c d).num (over c d).den a b c d (mul-pos (den_of (over a b)) (den_of (over c d))) (mul-pos hb hd) (over_same a b hb) (over_same c d hd)
  where
    crossed : (n : ℤ) (m : ℕ) (k : ℤ) (l : ℕ) (a : ℤ) (b : ℕ) (c : ℤ) (d : ℕ) → 0 < m * l → 0 < b * d → Same n m a b → Same k l c d → int_cmp (n *ℤ pos l) (k *ℤ pos m) ≡ int_cmp (a *ℤ pos d) (c *ℤ pos b)
    crossed n m k l a b c d h i p q =
        sym (cmp_scaled (n *ℤ pos l) (k *ℤ pos m) (b * d) i)
        ∙ ap (λ x. int_cmp x ((k *ℤ pos m) *ℤ pos (b * d)))
        (ring (mul (mul (var n) (nat l)) (nat (b * d))) (mul (mul (var n) (nat b)) (nat (l * d))) (omega arith) ∙ ap (λ x. x *ℤ pos (l * d)) p
        ∙ ring (mul (mul (var a) (nat m)) (nat (l * d))) (mul (mul (var a) (nat d)) (nat (m * l))) (omega arith))
        ∙ ap (λ x. int_cmp ((a *ℤ pos d) *ℤ pos (m * l)) x)
        (ring (mul (mul (var k) (nat m)) (nat (b * d))) (mul (mul (var k) (nat d)) (nat (m * b))) (omega arith) ∙ ap (λ x. x *ℤ pos (m * b)) q
        ∙ ring (mul (mul (var c) (nat l)) (nat (m * b))) (mul (mul (var c) (nat b)) (nat (m * l))) (omega arith))
        ∙ cmp_scaled (a *ℤ pos d) (c *ℤ pos b) (m * l) h

-- what compares as equal is equal
pub same_from_cmp : (a b : Fraction) → fraction_cmp a b ≡ Equal → a ≡ b
same_from_cmp a b e = unique a b (int_ranked (a.num *ℤ pos b.den) (b.num *ℤ pos a.den) Equal (sym e))

-- the order of crossed products is transitive
trans_of : (a : ℤ) (b : ℕ) (c : ℤ) (d : ℕ) (e : ℤ) (f : ℕ) → 0 < b → 0 < d → 0 < f → (a *ℤ pos d) <ℤ (c *ℤ pos b) → (c *ℤ pos f) <ℤ (e *ℤ pos d) → (a *ℤ pos f) <ℤ (e *ℤ pos b)
trans_of a b c d e f hb hd hf l m =
    let one : ((a *ℤ pos d) *ℤ pos f) <ℤ ((c *ℤ pos b) *ℤ pos f) = lt_scaled _ _ f hf l in
    let two : ((c *ℤ pos f) *ℤ pos b) <ℤ ((e *ℤ pos d) *ℤ pos b) = lt_scaled _ _ b hb m in
    let p : ((a *ℤ pos d) *ℤ pos f ≡ (a *ℤ pos f) *ℤ pos d) = ring (mul (mul (var a) (nat d)) (nat f)) (mul (mul (var a) (nat f)) (nat d)) (omega arith) in
    let q : ((c *ℤ pos b) *ℤ pos f ≡ (c *ℤ pos f) *ℤ pos b) = ring (mul (mul (var c) (nat b)) (nat f)) (mul (mul (var c) (nat f)) (nat b)) (omega arith) in
    let r : ((e *ℤ pos d) *ℤ pos b ≡ (e *ℤ pos b) *ℤ pos d) = ring (mul (mul (var e) (nat d)) (nat b)) (mul (mul (var e) (nat b)) (nat d)) (omega arith) in
    lt_unscaled (a *ℤ pos f) (e *ℤ pos b) d (linked _ _ _ _ _ _ one two p q r)
  where
    linked : (s t u v w x : ℤ) → s <ℤ t → u <ℤ v → s ≡ w → t ≡ u → v ≡ x → w <ℤ x
    linked s t u v w x h i p q r = omega (arith, ints)

-- the order is total
pub fraction_cmp_total : IsTotalOrder fraction_cmp
fraction_cmp_total = record {
  antisymm = λ x y. int_cmp_total.antisymm (x.num *ℤ pos y.den) (y.num *ℤ pos x.den);
  trans = λ x y z p q. less _ _ (trans_of x.num x.den y.num y.den z.num z.den (den_of x) (den_of y) (den_of z) (int_ranked _ _ Less (sym p)) (int_ranked _ _ Less (sym q)));
  congr = λ x y z p. ap (λ w. fraction_cmp w z) (same_from_cmp x y p);
}

-- adding the same to both
pub cmp_plus : (a b c : Fraction) → fraction_cmp (plus a c) (plus b c) ≡ fraction_cmp a b
cmp_plus a b c =
    ap (λ x. fraction_cmp x (plus b c)) (amount_is (sum (frac a) (frac c))) ∙ ap (λ x. fraction_cmp (over ((a.num *ℤ pos c.den) +ℤ (c.num *ℤ pos a.den)) (a.den * c.den)) x) (amount_is (sum (frac b) (frac c)))
    ∙ cmp-over _ _ _ _ (mul-pos (den_of a) (den_of c)) (mul-pos (den_of b) (den_of c))
    ∙ ap (λ x. int_cmp x (((b.num *ℤ pos c.den) +ℤ (c.num *ℤ pos b.den)) *ℤ pos (a.den * c.den)))
    (ring (mul (add (mul (var a.num) (nat c.den)) (mul (var c.num) (nat a.den))) (nat (b.den * c.den)))
    (add (mul (mul (var a.num) (nat b.den)) (nat (c.den * c.den))) (mul (var c.num) (nat (a.den * b.den * c.den)))) (omega arith))
    ∙ ap (λ x. int_cmp (((a.num *ℤ pos b.den) *ℤ pos (c.den * c.den)) +ℤ (c.num *ℤ pos (a.den * b.den * c.den))) x)
    (ring (mul (add (mul (var b.num) (nat c.den)) (mul (var c.num) (nat b.den))) (nat (a.den * c.den)))
    (add (mul (mul (var b.num) (nat a.den)) (nat (c.den * c.den))) (mul (var c.num) (nat (a.den * b.den * c.den)))) (omega arith))
    ∙ cmp_shifted ((a.num *ℤ pos b.den) *ℤ pos (c.den * c.den)) ((b.num *ℤ pos a.den) *ℤ pos (c.den * c.den)) (c.num *ℤ pos (a.den * b.den * c.den)) ∙ cmp_scaled (a.num *ℤ pos b.den) (b.num *ℤ pos a.den) (c.den * c.den) (mul-pos (den_of c) (den_of c))

-- a comparison is the sign of the difference
pub cmp_minus : (a b : Fraction) → fraction_cmp (minus a b) (whole (pos 0)) ≡ fraction_cmp a b
cmp_minus a b =
    sym (cmp_plus (minus a b) (whole (pos 0)) b)
    ∙ ap (λ x. fraction_cmp x (plus (whole (pos 0)) b)) (plus-minus a b)
    ∙ ap (λ x. fraction_cmp a x) (plus_left_zero b)

-- multiplying both by the same above 0
pub cmp_times : (a b c : Fraction) → pos 0 <ℤ c.num → fraction_cmp (times a c) (times b c) ≡ fraction_cmp a b
cmp_times a b c h =
    ap (λ x. fraction_cmp x (times b c)) (times_parts a c) ∙ ap (λ x. fraction_cmp (over (a.num *ℤ c.num) (a.den * c.den)) x) (times_parts b c)
    ∙ cmp-over _ _ _ _ (mul-pos (den_of a) (den_of c)) (mul-pos (den_of b) (den_of c))
    ∙ moved a.num a.den b.num b.den c.num c.den (unsigned_abs c.num) (abs_above c.num h) (den_of c) (abs_some c.num h)
  where
    abs_above : (z : ℤ) → pos 0 <ℤ z → z ≡ pos (unsigned_abs z)
    abs_above z h = omega (arith, ints)

    abs_some : (z : ℤ) → pos 0 <ℤ z → 0 < unsigned_abs z
    abs_some z h = omega (arith, ints)

    moved : (n : ℤ) (m : ℕ) (k : ℤ) (l : ℕ) (z : ℤ) (d p : ℕ) → z ≡ pos p → 0 < d → 0 < p → int_cmp ((n *ℤ z) *ℤ pos (l * d)) ((k *ℤ z) *ℤ pos (m * d)) ≡ int_cmp (n *ℤ pos l) (k *ℤ pos m)
    moved n m k l z d p e hd hp =
        ap (λ y. int_cmp ((n *ℤ y) *ℤ pos (l * d)) ((k *ℤ y) *ℤ pos (m * d))) e
        ∙ ap (λ x. int_cmp x ((k *ℤ pos p) *ℤ pos (m * d))) (ring (mul (mul (var n) (nat p)) (nat (l * d))) (mul (mul (var n) (nat l)) (nat (p * d))) (omega arith))
        ∙ ap (λ x. int_cmp ((n *ℤ pos l) *ℤ pos (p * d)) x) (ring (mul (mul (var k) (nat p)) (nat (m * d))) (mul (mul (var k) (nat m)) (nat (p * d))) (omega arith))
        ∙ cmp_scaled (n *ℤ pos l) (k *ℤ pos m) (p * d) (mul-pos hp hd)

-- whole numbers keep their order
pub whole_cmp : (a b : ℤ) → fraction_cmp (whole a) (whole b) ≡ int_cmp a b
unfolding whole
whole_cmp a b = cmp_scaled a b 1 (lit< tt)

-- a fraction is compared with itself
pub cmp_self : (a : Fraction) → fraction_cmp a a ≡ Equal
cmp_self a = tied (a.num *ℤ pos a.den) (a.num *ℤ pos a.den) refl

-- two truths that follow from each other are one
one_answer : (p q : Bool) → (p ≡ true → q ≡ true) → (q ≡ true → p ≡ true) → p ≡ q
one_answer true q f g = sym (f refl)
one_answer false true f g = g refl
one_answer false false f g = refl

-- only Equal counts as equal
equal_from : (o : Ordering) → is_eq o ≡ true → o ≡ Equal
equal_from Less e = cc
equal_from Equal e = refl
equal_from Greater e = cc

-- a fraction equals itself
eq_itself : (a : Fraction) → fraction_eq a a ≡ true
unfolding fraction_eq
eq_itself a = two (int_eq a.num a.num) (a.den == a.den) (ap is_eq (tied a.num a.num refl)) (grind (arith, nat_tests))
  where
    two : (p q : Bool) → p ≡ true → q ≡ true → (p && q) ≡ true
    two p q e f = cc

-- the test for equality agrees with the order
pub fraction_eq_is : (a b : Fraction) → fraction_eq a b ≡ is_eq (fraction_cmp a b)
fraction_eq_is a b =
    one_answer (fraction_eq a b) (is_eq (fraction_cmp a b))
    (λ e. ap (λ x. is_eq (fraction_cmp a x)) (sym (same_from_eq a b e)) ∙ ap is_eq (tied (a.num *ℤ pos a.den) (a.num *ℤ pos a.den) refl))
    (λ e. ap (λ x. fraction_eq a x) (sym (same_from_cmp a b (equal_from (fraction_cmp a b) e))) ∙ eq_itself a)

-- the order is an order in part, as PartialOrd asks
pub fraction_po : IsPartialOrder fraction_eq (as_partial_cmp fraction_cmp)
fraction_po = po fraction_cmp_total fraction_eq_is

-- the test for equality is an equivalence
pub fraction_eq_laws : IsEquivalence fraction_eq
unfolding fraction_eq
fraction_eq_laws = and_equiv (on_equiv (λ f. f.num) int_eq_equiv) (on_equiv (λ f. f.den) nat_eq_equiv)
