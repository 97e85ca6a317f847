-- A product of fractions is answered exactly where both of its numbers fit.
use Rattle.std.proofs.Common.{◌≡◌, ℕ, ◌*◌, ◌/◌, ◌^◌, ◌<◌, ℤ, pos, ◌*ℤ◌, sym, ◌∙◌, ap, subst}
use Rattle.std.specs.Prelude.{◌&&◌, nat_lt, int_div, unsigned_abs}
use Rattle.std.specs.Int.{◌∣◌, IsGcd}
use Rattle.std.proofs.lemmas.Int.{unsigned_abs-mul}
use Rattle.std.proofs.lemmas.Nat.Gcd.{IsGcd-swap, same_from_IsGcd}
use native.Mathlib.Nat.{dvd_trans, div-mul_cancel, dvd-mul_right, mul-pos, eq-one_of_dvd-one}
use Rattle.np_frac.specs.Gcd.{gcd, IsGcd-gcd, gcd-quotients, gcd-quotient_pos, dvd_from_coprime}
use Rattle.np_frac.specs.Fractions.{Fraction, times, lowest_from, coprime, abs_quotient}
use Rattle.np_frac.specs.Laws.{den_of, over_parts, times_parts}
use Rattle.np_frac.specs.Checked.{fits, times_fits}
use Rattle.np_frac.proofs.Products.{product_is}

-- no divisor but 1 is shared
abbrev Apart : ℕ → ℕ → Type 0
Apart m n = gcd m n ≡ 1

apart_swapped : (m n : ℕ) → Apart m n → Apart n m
apart_swapped m n e = same_from_IsGcd n m (gcd n m) (gcd m n) (IsGcd-gcd n m) (IsGcd-swap m n (gcd m n) (IsGcd-gcd m n)) ∙ e

-- divisors share no more
apart_divided : (m n k : ℕ) → k ∣ m → Apart m n → Apart k n
apart_divided m n k h e =
    let is : IsGcd k n (gcd k n) = IsGcd-gcd k n in
    eq-one_of_dvd-one (subst (λ (x : ℕ). gcd k n ∣ x) e ((IsGcd-gcd m n).2 (gcd k n) (dvd_trans (gcd k n) is.0 h) is.1))

-- nor do products
apart_product : (m n k : ℕ) → Apart m k → Apart n k → Apart (m * n) k
apart_product m n k p q =
    let e : ℕ = gcd (m * n) k in
    let is : IsGcd (m * n) k e = IsGcd-gcd (m * n) k in
    let other : Apart m e = apart_swapped e m (apart_divided k m e is.1 (apart_swapped m k p)) in
    eq-one_of_dvd-one (subst (λ (x : ℕ). e ∣ x) q ((IsGcd-gcd n k).2 e (dvd_from_coprime m e n other is.0) is.1))

quotient_divides : (m g : ℕ) → g ∣ m → m / g ∣ m
quotient_divides m g h = subst (λ (x : ℕ). m / g ∣ x) (div-mul_cancel g h) (dvd-mul_right (m / g) g)

-- the numbers of a product, without the common divisors
abbrev top : Fraction → Fraction → ℤ
top x y = int_div x.num (pos (gcd (unsigned_abs x.num) y.den)) *ℤ int_div y.num (pos (gcd (unsigned_abs y.num) x.den))

abbrev bottom : Fraction → Fraction → ℕ
bottom x y = x.den / gcd (unsigned_abs y.num) x.den * (y.den / gcd (unsigned_abs x.num) y.den)

-- share none
lowest_product : (a b c d : ℕ) → 0 < b → 0 < d → Apart a b → Apart c d → Apart (a / gcd a d * (c / gcd c b)) (b / gcd c b * (d / gcd a d))
lowest_product a b c d hb hd p q =
    let g : ℕ = gcd a d in
    let h : ℕ = gcd c b in
    let is = IsGcd-gcd a d in
    let also = IsGcd-gcd c b in
    let first : Apart (a / g) (b / h) = apart_divided a (b / h) (a / g) (quotient_divides a g is.0) (apart_swapped (b / h) a (apart_divided b a (b / h) (quotient_divides b h also.1) (apart_swapped a b p))) in
    let second : Apart (c / h) (d / g) = apart_divided c (d / g) (c / h) (quotient_divides c h also.0) (apart_swapped (d / g) c (apart_divided d c (d / g) (quotient_divides d g is.1) (apart_swapped c d q))) in
    let third : Apart (a / g) (d / g) = gcd-quotients a d hd in
    let fourth : Apart (c / h) (b / h) = gcd-quotients c b hb in
    let left : Apart (a / g * (c / h)) (b / h) = apart_product (a / g) (c / h) (b / h) first fourth in
    let right : Apart (a / g * (c / h)) (d / g) = apart_product (a / g) (c / h) (d / g) third second in
    apart_swapped (b / h * (d / g)) (a / g * (c / h))
    (apart_product (b / h) (d / g) (a / g * (c / h)) (apart_swapped (a / g * (c / h)) (b / h) left) (apart_swapped (a / g * (c / h)) (d / g) right))

-- so they are the numbers of the product
record IsProduct (x y : Fraction) : Type 0 where
  num : (times x y).num ≡ top x y
  den : (times x y).den ≡ bottom x y

product_in_lowest : (x y : Fraction) → IsProduct x y
product_in_lowest x y =
    let some : 0 < bottom x y = mul-pos (gcd-quotient_pos (unsigned_abs y.num) x.den (den_of x)) (gcd-quotient_pos (unsigned_abs x.num) y.den (den_of y)) in
    let size : unsigned_abs (top x y) ≡ unsigned_abs x.num / gcd (unsigned_abs x.num) y.den * (unsigned_abs y.num / gcd (unsigned_abs y.num) x.den) =
    unsigned_abs-mul (int_div x.num (pos (gcd (unsigned_abs x.num) y.den))) (int_div y.num (pos (gcd (unsigned_abs y.num) x.den)))
    ∙ ap (λ n. n * unsigned_abs (int_div y.num (pos (gcd (unsigned_abs y.num) x.den)))) (abs_quotient x.num (gcd (unsigned_abs x.num) y.den))
    ∙ ap (λ n. unsigned_abs x.num / gcd (unsigned_abs x.num) y.den * n) (abs_quotient y.num (gcd (unsigned_abs y.num) x.den)) in
    let apart : gcd (unsigned_abs (top x y)) (bottom x y) ≡ 1 =
    ap (λ n. gcd n (bottom x y)) size ∙ lowest_product (unsigned_abs x.num) x.den (unsigned_abs y.num) y.den (den_of x) (den_of y) (coprime x.num x.den x.lowest) (coprime y.num y.den y.lowest) in
    let f : Fraction = record { num = top x y; den = bottom x y; lowest = lowest_from (top x y) (bottom x y) some apart } in
    let e : f ≡ times x y = sym (over_parts f) ∙ product_is x.num x.den y.num y.den (den_of x) (den_of y) ∙ sym (times_parts x y) in
    record { num = ap (λ (z : Fraction). z.num) (sym e); den = ap (λ (z : Fraction). z.den) (sym e) }

-- a product is answered exactly where both numbers fit
pub times_fits_is : (x y : Fraction) → times_fits x y ≡ (fits (times x y).num && nat_lt (times x y).den (2 ^ 127))
unfolding times_fits
times_fits_is x y =
    let is : IsProduct x y = product_in_lowest x y in
    ap (λ n. fits n && nat_lt (bottom x y) (2 ^ 127)) (sym is.num) ∙ ap (λ d. fits (times x y).num && nat_lt d (2 ^ 127)) (sym is.den)
