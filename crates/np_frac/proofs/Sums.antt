-- The sum with the least common denominator.
use Rattle.std.proofs.Common.{◌≡◌, ℕ, ◌*◌, ◌/◌, ◌<◌, ◌≤◌, ◌^◌, Bool, true, false, Option, Some, None, ℤ, pos, ◌+ℤ◌, ◌*ℤ◌, refl, sym, ◌∙◌, ap, arith}
use Rattle.std.specs.Prelude.{is_some, neg_ℤ, nat_lt, if◌then◌else◌, ◌&&◌}
use Rattle.std.proofs.lemmas.Nat.{le-div}
use native.Mathlib.Nat.{div-mul_cancel, mul-pos}
use Rattle.np_frac.specs.Gcd.{gcd, IsGcd-gcd, gcd-quotient_pos}
use Rattle.np_frac.specs.Fractions.{Fraction, over}
use Rattle.np_frac.specs.Checked.{fits, fitting, sum_fits, checked_sum, minus_fits}
use Rattle.np_frac.specs.Laws.{over_equal, Same}
use Rattle.np_frac.specs.Ring.{var, nat, add, mul, ring}

-- b and d are given as multiples of g
same_sum : (a c : ℤ) (b d g : ℕ) → Same ((a *ℤ pos d) +ℤ (c *ℤ pos b)) (b * g * d) ((a *ℤ pos (d * g)) +ℤ (c *ℤ pos (b * g))) (b * g * (d * g))
same_sum a c b d g =
    ring (mul (add (mul (var a) (nat d)) (mul (var c) (nat b))) (nat (b * g * (d * g))))
    (mul (add (mul (var a) (nat (d * g))) (mul (var c) (nat (b * g)))) (nat (b * g * d))) (omega arith)

-- the sum over the least common denominator is the sum
pub sum_is : (a : ℤ) (b : ℕ) (c : ℤ) (d : ℕ) → 0 < b → 0 < d → over ((a *ℤ pos (d / gcd b d)) +ℤ (c *ℤ pos (b / gcd b d))) (b * (d / gcd b d)) ≡ over ((a *ℤ pos d) +ℤ (c *ℤ pos b)) (b * d)
sum_is a b c d hb hd =
    let g : ℕ = gcd b d in
    let p : b / g * g ≡ b = div-mul_cancel g (IsGcd-gcd b d).0 in
    let q : d / g * g ≡ d = div-mul_cancel g (IsGcd-gcd b d).1 in
    let same : Same ((a *ℤ pos (d / g)) +ℤ (c *ℤ pos (b / g))) (b * (d / g)) ((a *ℤ pos d) +ℤ (c *ℤ pos b)) (b * d) = rw (p, q) at (same_sum a c (b / g) (d / g) g) in
    over_equal _ _ _ _ (mul-pos hb (gcd-quotient_pos b d hd)) (mul-pos hb hd) same

-- ---- what the steps of a sum say

-- what an answer says of its test
pub yes : {A : Type 0} (l z : A) (b : Bool) → Some l ≡ (if b then Some z else None) → (b ≡ true) × (l ≡ z)
yes l z true e = (refl, cc)
yes l z false e = absurd cc

-- what a missing answer says of its test
pub no : {A : Type 0} (z : A) (b : Bool) → None ≡ (if b then Some z else None) → b ≡ false
no z true e = cc
no z false e = refl

-- four true parts
all_four : (p q r s : Bool) → p ≡ true → q ≡ true → r ≡ true → s ≡ true → (p && (q && (r && s))) ≡ true
all_four p q r s e f g h = cc

-- a false third part
third_fails : (p q r s : Bool) → r ≡ false → (p && (q && (r && s))) ≡ false
third_fails true true r s e = cc
third_fails true false r s e = refl
third_fails false q r s e = refl

module _ (a c : ℤ) (b d : ℕ) (p q : ℤ) (g : ℕ) (l r : ℤ) (hb : 0 < b) (hd : 0 < d) (ep : p ≡ a) (eq : q ≡ c) (eg : g ≡ gcd b d) (left : Some l ≡ fitting (p *ℤ pos (d / g))) (right : Some r ≡ fitting (q *ℤ pos (b / g))) where
  -- what the code holds, put into the definition's words
  at_sum : {A : Type 0} (f : ℤ → ℤ → ℕ → A) → f p q g ≡ f a c (gcd b d)
  at_sum f = cc

  -- the sum of the numerators doesn't fit
  pub sum_none : None ≡ fitting (l +ℤ r) → None ≡ checked_sum a b c d
  sum_none e =
      let fails : fits ((p *ℤ pos (d / g)) +ℤ (q *ℤ pos (b / g))) ≡ false =
      ap (λ z. fits (z +ℤ (q *ℤ pos (b / g)))) (sym (yes l _ _ left).1) ∙ ap (λ z. fits (l +ℤ z)) (sym (yes r _ _ right).1) ∙ no (l +ℤ r) _ e in
      ap (λ t. if t then Some (over ((a *ℤ pos d) +ℤ (c *ℤ pos b)) (b * d)) else None)
      (sym (sym (at_sum (λ p q g. sum_fits p b q d g)) ∙ third_fails _ _ _ _ fails))

  -- all four fit
  pub sum_some : (n : ℤ) (m : ℕ) → Some n ≡ fitting (l +ℤ r) → Some m ≡ (if nat_lt (b * (d / g)) (2 ^ 127) then Some (b * (d / g)) else None) → Some (over n m) ≡ checked_sum a b c d
  sum_some n m e f =
      let nn : n ≡ (p *ℤ pos (d / g)) +ℤ (q *ℤ pos (b / g)) = (yes n _ _ e).1 ∙ ap (λ z. z +ℤ r) (yes l _ _ left).1 ∙ ap (λ z. (p *ℤ pos (d / g)) +ℤ z) (yes r _ _ right).1 in
      let holds : sum_fits p b q d g ≡ true = all_four _ _ _ _ (yes l _ _ left).0 (yes r _ _ right).0 (ap fits (sym nn ∙ (yes n _ _ e).1) ∙ (yes n _ _ e).0) (yes m _ _ f).0 in
      ap (λ z. Some (over z m)) nn ∙ ap (λ k. Some (over ((p *ℤ pos (d / g)) +ℤ (q *ℤ pos (b / g))) k)) (yes m _ _ f).1
      ∙ at_sum (λ p q g. Some (over ((p *ℤ pos (d / g)) +ℤ (q *ℤ pos (b / g))) (b * (d / g))))
      ∙ ap Some (sum_is a b c d hb hd)
      ∙ ap (λ t. if t then Some (over ((a *ℤ pos d) +ℤ (c *ℤ pos b)) (b * d)) else None) (sym (sym (at_sum (λ p q g. sum_fits p b q d g)) ∙ holds))

-- the denominator of the sum is positive
pub product_positive : (b d g m : ℕ) → 0 < b → 0 < d → 0 < g → g ≤ d → Some m ≡ (if nat_lt (b * (d / g)) (2 ^ 127) then Some (b * (d / g)) else None) → 0 < m
product_positive b d g m hb hd hg h e =
    let q : 0 < d / g = le-div 1 d g hg (omega arith) in
    omega (arith, mul-pos hb q, (yes m _ _ e).1)

-- an answer comes exactly where its test holds
some_if : {A : Type 0} (b : Bool) (x : A) → is_some (if b then Some x else None) ≡ b
some_if true x = refl
some_if false x = refl

-- when a difference is answered
pub sub_fits : (r : Option Fraction) (a : ℤ) (b : ℕ) (c : ℤ) (d : ℕ) (x y : Fraction) → a ≡ x.num → b ≡ x.den → c ≡ neg_ℤ y.num → d ≡ y.den → r ≡ checked_sum a b c d → is_some r ≡ minus_fits x y
unfolding minus_fits
sub_fits r a b c d x y ea eb ec ed e =
    ap is_some e ∙ some_if (sum_fits a b c d (gcd b d)) _ ∙ moved
  where
    moved : sum_fits a b c d (gcd b d) ≡ sum_fits x.num x.den (neg_ℤ y.num) y.den (gcd x.den y.den)
    moved = cc
