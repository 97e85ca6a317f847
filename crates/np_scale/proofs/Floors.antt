-- What rounding down and up says of a whole number plus a fraction.
use Rattle.std.proofs.Common.{◌≡◌, ℕ, suc, ◌+◌, ◌-◌, ◌*◌, ◌/◌, ◌%◌, ◌<◌, true, false, ℤ, pos, negsuc, ◌+ℤ◌, ◌*ℤ◌, ◌<ℤ◌, ◌≤ℤ◌, sym, ◌∙◌, ap, arith, lit<}
use Rattle.std.specs.Prelude.{◌-ℤ◌, neg_ℤ, int_le}
use Rattle.std.specs.Int.{int_div_euclid}
use Rattle.std.specs.Ordering.{int_cmp, is_ge, is_gt}
use Rattle.std.proofs.lemmas.Int.{ints}
use native.Mathlib.Nat.{mod-lt, div-add-mod', mul-pos}
use Rattle.np_frac.specs.Fractions.{Fraction, over, whole, plus, fraction_cmp}
use Rattle.np_frac.specs.Ring.{var, nat, add, mul, neg, ring}
use Rattle.np_frac.specs.Laws.{den_of, whole-over}
use Rattle.np_frac.specs.Field.{frac, int, sum, amount_is}
use Rattle.np_frac.specs.Order.{cmp-over}
use Rattle.np_scale.specs.Wholes.{rounded_down, rounded_up}

-- a quotient rounded down, and what is left
pub record Divided (p f : ℤ) (q : ℕ) : Type 0 where
  pub rest : ℕ
  pub below : rest < q
  pub is : p ≡ (f *ℤ pos q) +ℤ pos rest

negative : (a k m q r : ℕ) → k * q + m ≡ a → r + m + 1 ≡ q → negsuc a ≡ (negsuc k *ℤ pos q) +ℤ pos r
negative a k m q r e f =
    let g : suc k * q ≡ k * q + q = omega arith in
    linked (suc k * q) (omega (arith, g)) ∙ ap (λ z. z +ℤ pos r) (sym (ring (mul (neg (nat (suc k))) (nat q)) (neg (nat (suc k * q))) (omega arith)))
  where
    linked : (n : ℕ) → n ≡ suc a + r → negsuc a ≡ neg_ℤ (pos n) +ℤ pos r
    linked n h = omega (arith, ints)

pub divided : (p : ℤ) (q : ℕ) → 0 < q → Divided p (int_div_euclid p (pos q)) q
divided (pos a) q h = record { rest = a % q; below = mod-lt a h; is = ap pos (sym (div-add-mod' a q)) }
divided (negsuc a) q h =
    let l : a % q < q = mod-lt a h in
    record { rest = q - 1 - a % q; below = omega arith; is = negative a (a / q) (a % q) q (q - 1 - a % q) (div-add-mod' a q) (omega arith) }

at_least_true : (x : ℤ) → pos 0 ≤ℤ x → is_ge (int_cmp x (pos 0)) ≡ true
at_least_true x h = grind (arith, ints)

at_least_false : (x : ℤ) → x <ℤ pos 0 → is_ge (int_cmp x (pos 0)) ≡ false
at_least_false x h = grind (arith, ints)

above_one : (x : ℤ) → is_ge (int_cmp x (pos 0)) ≡ is_gt (int_cmp (x +ℤ pos 1) (pos 0))
above_one x = by_sign x
  where
    gt_true : (y : ℤ) → pos 0 <ℤ y → is_gt (int_cmp y (pos 0)) ≡ true
    gt_true y h = grind (arith, ints)

    gt_false : (y : ℤ) → y ≤ℤ pos 0 → is_gt (int_cmp y (pos 0)) ≡ false
    gt_false y h = grind (arith, ints)

    by_sign : (y : ℤ) → is_ge (int_cmp y (pos 0)) ≡ is_gt (int_cmp (y +ℤ pos 1) (pos 0))
    by_sign (pos n) = at_least_true (pos n) (omega (arith, ints)) ∙ sym (gt_true (pos n +ℤ pos 1) (omega (arith, ints)))
    by_sign (negsuc n) = at_least_false (negsuc n) (omega (arith, ints)) ∙ sym (gt_false (negsuc n +ℤ pos 1) (omega (arith, ints)))

-- a multiple and a rest is at least 0 where the factor is
pub sign_kept : (m : ℤ) (q r : ℕ) → r < q → int_le (pos 0) m ≡ is_ge (int_cmp ((m *ℤ pos q) +ℤ pos r) (pos 0))
sign_kept (pos m) q r h = le_true ∙ sym (at_least_true ((pos m *ℤ pos q) +ℤ pos r) (omega (arith, ints)))
  where
    le_true : int_le (pos 0) (pos m) ≡ true
    le_true = grind (arith, ints)
sign_kept (negsuc m) q r h =
    le_false
    ∙ sym (ap (λ z. is_ge (int_cmp (z +ℤ pos r) (pos 0))) (ring (mul (neg (nat (suc m))) (nat q)) (neg (nat (suc m * q))) (omega arith))
    ∙ at_least_false (neg_ℤ (pos (suc m * q)) +ℤ pos r) (below (suc m * q) (omega (arith, g))))
  where
    le_false : int_le (pos 0) (negsuc m) ≡ false
    le_false = grind (arith, ints)

    g : suc m * q ≡ m * q + q
    g = omega arith

    below : (n : ℕ) → r < n → (neg_ℤ (pos n) +ℤ pos r) <ℤ pos 0
    below n l = omega (arith, ints)

-- comparing a whole number plus a fraction with 0
with_zero : (n : ℤ) (e : Fraction) → fraction_cmp (plus (whole n) e) (whole (pos 0)) ≡ int_cmp ((n *ℤ pos e.den) +ℤ e.num) (pos 0)
with_zero n e =
    ap (λ x. fraction_cmp x (whole (pos 0))) (amount_is (sum (int n) (frac e)))
    ∙ ap (fraction_cmp (over ((n *ℤ pos e.den) +ℤ (e.num *ℤ pos 1)) (1 * e.den))) (whole-over (pos 0))
    ∙ cmp-over _ _ _ _ (mul-pos (lit< tt) (den_of e)) (lit< tt)
    ∙ ap (λ x. int_cmp x (pos 0 *ℤ pos (1 * e.den))) (ring (mul (add (mul (var n) (nat e.den)) (mul (var e.num) (nat 1))) (nat 1)) (add (mul (var n) (nat e.den)) (var e.num)) (omega arith))
    ∙ ap (int_cmp ((n *ℤ pos e.den) +ℤ e.num)) (ring (mul (nat 0) (nat (1 * e.den))) (nat 0) (omega arith))

-- a fraction rounded down keeps whether the sum is at least 0
pub down_says : (n : ℤ) (e : Fraction) → int_le (pos 0) (rounded_down e +ℤ n) ≡ is_ge (fraction_cmp (plus (whole n) e) (whole (pos 0)))
down_says n e =
    let d = divided e.num e.den (den_of e) in
    sign_kept (rounded_down e +ℤ n) e.den d.rest d.below
    ∙ ap (λ z. is_ge (int_cmp z (pos 0)))
    (ring (add (mul (add (var (rounded_down e)) (var n)) (nat e.den)) (nat d.rest)) (add (mul (var n) (nat e.den)) (add (mul (var (rounded_down e)) (nat e.den)) (nat d.rest))) (omega arith)
    ∙ ap (λ z. (n *ℤ pos e.den) +ℤ z) (sym d.is))
    ∙ ap is_ge (sym (with_zero n e))

-- rounded up, less 1, it keeps whether the sum is above 0
pub up_says : (n : ℤ) (e : Fraction) → int_le (pos 0) ((rounded_up e -ℤ pos 1) +ℤ n) ≡ is_gt (fraction_cmp (plus (whole n) e) (whole (pos 0)))
up_says n e =
    let d = divided (neg_ℤ e.num) e.den (den_of e) in
    up_from n e.num (int_div_euclid (neg_ℤ e.num) (pos e.den)) e.den d.rest (e.den - 1 - d.rest) (omega (arith, d.below)) (omega (arith, d.below)) d.is
    ∙ ap is_gt (sym (with_zero n e))
  where
    up_from : (n p f : ℤ) (q r s : ℕ) → s < q → s + r + 1 ≡ q → neg_ℤ p ≡ (f *ℤ pos q) +ℤ pos r → int_le (pos 0) ((neg_ℤ f -ℤ pos 1) +ℤ n) ≡ is_gt (int_cmp ((n *ℤ pos q) +ℤ p) (pos 0))
    up_from n p f q r s below whole_is rest_is =
        sign_kept ((neg_ℤ f -ℤ pos 1) +ℤ n) q s below
        ∙ above_one ((((neg_ℤ f -ℤ pos 1) +ℤ n) *ℤ pos q) +ℤ pos s)
        ∙ ap (λ z. is_gt (int_cmp z (pos 0))) (shifted n p f q r s whole_is rest_is)
      where
        shifted : (n p f : ℤ) (q r s : ℕ) → s + r + 1 ≡ q → neg_ℤ p ≡ (f *ℤ pos q) +ℤ pos r → ((((neg_ℤ f -ℤ pos 1) +ℤ n) *ℤ pos q) +ℤ pos s) +ℤ pos 1 ≡ (n *ℤ pos q) +ℤ p
        shifted n p f q r s e h =
            ap (λ z. ((z *ℤ pos q) +ℤ pos s) +ℤ pos 1) same_factor
            ∙ ap (λ z. (z +ℤ pos s) +ℤ pos 1) (ring (mul (add (add (neg (var f)) (neg (nat 1))) (var n)) (nat q)) (add (add (neg (mul (var f) (nat q))) (neg (nat q))) (mul (var n) (nat q))) (omega arith))
            ∙ linear (n *ℤ pos q) (f *ℤ pos q) p q r s e h
          where
            same_factor : (neg_ℤ f -ℤ pos 1) +ℤ n ≡ (neg_ℤ f +ℤ neg_ℤ (pos 1)) +ℤ n
            same_factor = omega (arith, ints)

            linear : (N F p : ℤ) (q r s : ℕ) → s + r + 1 ≡ q → neg_ℤ p ≡ F +ℤ pos r → (((neg_ℤ F +ℤ neg_ℤ (pos q)) +ℤ N) +ℤ pos s) +ℤ pos 1 ≡ N +ℤ p
            linear N F p q r s e h = omega (arith, ints)
