-- The product with the common divisors taken out.
use Rattle.std.proofs.Common.{◌≡◌, ℕ, ◌*◌, ◌/◌, ◌<◌, ◌≤◌, ◌^◌, Bool, true, false, Some, None, ℤ, pos, ◌*ℤ◌, refl, sym, ◌∙◌, ap, arith}
use Rattle.std.specs.Prelude.{nat_lt, if◌then◌else◌, ◌&&◌, int_div, unsigned_abs}
use Rattle.std.proofs.lemmas.Nat.{le-div}
use native.Mathlib.Nat.{div-mul_cancel, mul-pos}
use Rattle.np_frac.specs.Gcd.{gcd, IsGcd-gcd, gcd-quotient_pos}
use Rattle.np_frac.specs.Fractions.{over}
use Rattle.np_frac.specs.Checked.{fits, fitting, checked_product}
use Rattle.np_frac.specs.Laws.{times_quotient, over_equal, Same}
use Rattle.np_frac.specs.Ring.{var, nat, mul, ring}
use Rattle.np_frac.proofs.Sums.{yes, no}

-- the product without the common divisors is the same number
same_product : (a c : ℤ) (b d g h : ℕ) → Same (a *ℤ c) (b * d) ((a *ℤ pos g) *ℤ (c *ℤ pos h)) (b * h * (d * g))
same_product a c b d g h =
    ring (mul (mul (var a) (var c)) (nat (b * h * (d * g)))) (mul (mul (mul (var a) (nat g)) (mul (var c) (nat h))) (nat (b * d))) (omega arith)

-- so both reduce to one fraction
pub product_is : (a : ℤ) (b : ℕ) (c : ℤ) (d : ℕ) → 0 < b → 0 < d → over (int_div a (pos (gcd (unsigned_abs a) d)) *ℤ int_div c (pos (gcd (unsigned_abs c) b))) (b / gcd (unsigned_abs c) b * (d / gcd (unsigned_abs a) d)) ≡ over (a *ℤ c) (b * d)
product_is a b c d hb hd =
    let g : ℕ = gcd (unsigned_abs a) d in
    let h : ℕ = gcd (unsigned_abs c) b in
    let p = IsGcd-gcd (unsigned_abs a) d in
    let q = IsGcd-gcd (unsigned_abs c) b in
    let ea : (int_div a (pos g) *ℤ pos g ≡ a) = times_quotient a g p.0 in
    let ec : (int_div c (pos h) *ℤ pos h ≡ c) = times_quotient c h q.0 in
    let eb : b / h * h ≡ b = div-mul_cancel h q.1 in
    let ed : d / g * g ≡ d = div-mul_cancel g p.1 in
    let same : Same (int_div a (pos g) *ℤ int_div c (pos h)) (b / h * (d / g)) (a *ℤ c) (b * d) =
    rw (ea, ec, eb, ed) at (same_product (int_div a (pos g)) (int_div c (pos h)) (b / h) (d / g) g h) in
    over_equal _ _ _ _ (mul-pos (gcd-quotient_pos (unsigned_abs c) b hb) (gcd-quotient_pos (unsigned_abs a) d hd)) (mul-pos hb hd) same

-- a false first part
first_fails : (p q : Bool) → p ≡ false → (p && q) ≡ false
first_fails p q e = cc

-- a false second part
second_fails : (p q : Bool) → q ≡ false → (p && q) ≡ false
second_fails true q e = e
second_fails false q e = refl

-- two true parts
both : (p q : Bool) → p ≡ true → q ≡ true → (p && q) ≡ true
both p q e f = cc

module _ (a c : ℤ) (b d : ℕ) (p q : ℤ) (g h : ℕ) (hb : 0 < b) (hd : 0 < d) (ep : p ≡ int_div a (pos g)) (eq : q ≡ int_div c (pos h)) (eg : g ≡ gcd (unsigned_abs a) d) (eh : h ≡ gcd (unsigned_abs c) b) where
  -- what the code holds, put into the definition's words
  at_product : {A : Type 0} (f : ℤ → ℤ → ℕ → ℕ → A) → f p q g h ≡ f (int_div a (pos (gcd (unsigned_abs a) d))) (int_div c (pos (gcd (unsigned_abs c) b))) (gcd (unsigned_abs a) d) (gcd (unsigned_abs c) b)
  at_product f = cc

  -- the numerator doesn't fit
  pub no_top : None ≡ fitting (p *ℤ q) → None ≡ checked_product a b c d
  no_top e = ap (λ t. if t then Some (over (a *ℤ c) (b * d)) else None) (sym (sym (at_product (λ p q g h. fits (p *ℤ q) && nat_lt (b / h * (d / g)) (2 ^ 127))) ∙ first_fails _ _ (no _ _ e)))

  -- the denominator doesn't fit
  pub no_bottom : None ≡ (if nat_lt (b / h * (d / g)) (2 ^ 127) then Some (b / h * (d / g)) else None) → None ≡ checked_product a b c d
  no_bottom e = ap (λ t. if t then Some (over (a *ℤ c) (b * d)) else None) (sym (sym (at_product (λ p q g h. fits (p *ℤ q) && nat_lt (b / h * (d / g)) (2 ^ 127))) ∙ second_fails _ _ (no _ _ e)))

  -- both fit
  pub product_some : (n : ℤ) (m : ℕ) → Some n ≡ fitting (p *ℤ q) → Some m ≡ (if nat_lt (b / h * (d / g)) (2 ^ 127) then Some (b / h * (d / g)) else None) → Some (over n m) ≡ checked_product a b c d
  product_some n m e f =
      ap (λ z. Some (over z m)) (yes n _ _ e).1 ∙ ap (λ k. Some (over (p *ℤ q) k)) (yes m _ _ f).1
      ∙ at_product (λ p q g h. Some (over (p *ℤ q) (b / h * (d / g))))
      ∙ ap Some (product_is a b c d hb hd)
      ∙ ap (λ t. if t then Some (over (a *ℤ c) (b * d)) else None) (sym (sym (at_product (λ p q g h. fits (p *ℤ q) && nat_lt (b / h * (d / g)) (2 ^ 127))) ∙ both _ _ (yes n _ _ e).0 (yes m _ _ f).0))

-- the denominator of the product is positive
pub quotients_positive : (b d g h m : ℕ) → 0 < b → 0 < d → 0 < g → g ≤ d → 0 < h → h ≤ b → Some m ≡ (if nat_lt (b / h * (d / g)) (2 ^ 127) then Some (b / h * (d / g)) else None) → 0 < m
quotients_positive b d g h m hb hd hg lg hh lh e =
    omega (arith, mul-pos (le-div 1 b h hh (omega arith)) (le-div 1 d g hg (omega arith)), (yes m _ _ e).1)
