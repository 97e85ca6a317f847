-- Scaled numbers and least common multiples below their limits.
use Rattle.std.proofs.Common.{◌≡◌, ℕ, ◌/◌, ◌<◌, ◌≤◌, Bool, true, false, ℤ, pos, ◌*ℤ◌, refl, sym, ◌∙◌, ap, arith, List, [], ◌∷◌, Some, None, fold}
use Rattle.std.specs.Prelude.{◌^◌, if◌then◌else◌, nat_lt, unsigned_abs}
use Rattle.std.specs.Int.{◌∣◌}
use Rattle.std.specs.List.{AllByRecursion}
use Rattle.std.proofs.lemmas.Bool.{lt-ltb, le-ltb, ltb-true, ltb-false}
use native.Mathlib.Nat.{dvd_trans}
use Rattle.std.proofs.lemmas.Nat.Gcd.{le_of_dvd, dvd_refl}
use Rattle.np_frac.specs.Fractions.{Fraction}
use Rattle.np_frac.specs.Laws.{den_of}
use Rattle.np_frac.specs.Checked.{fits, fitting}
use Rattle.np_frac.specs.Field.{whole_num}
use Rattle.np_frac.specs.Quotients.{made_whole}
use Rattle.np_scale.specs.Wholes.{lcm, scaled_number}
use Rattle.np_scale.specs.Code.{below, small, dens}
use Rattle.np_scale.proofs.Multiples.{first_divides, lcm_pos}

-- ---- the limit

pub below_is : (limit n u : ℕ) → Some u ≡ below limit n → (u ≡ n) × (u < limit)
below_is limit n u e = by (nat_lt n limit) refl e
  where
    by : (b : Bool) → nat_lt n limit ≡ b → Some u ≡ (if b then Some n else None) → (u ≡ n) × (u < limit)
    by true lt e = let same : u ≡ n = cc in (same, omega (arith, ltb-true n limit lt))
    by false lt e = cc

pub none_above : (limit n : ℕ) → below limit n ≡ None → limit ≤ n
none_above limit n e = ltb-false n limit (fails (nat_lt n limit) e)
  where
    fails : (b : Bool) → (if b then Some n else None) ≡ None → b ≡ false
    fails true e = cc
    fails false e = refl

fold_divided : (a : ℕ) (ns : List ℕ) → a ∣ fold lcm a ns
fold_divided a [] = dvd_refl a
fold_divided a (n ∷ ns) = dvd_trans a (first_divides a n) (fold_divided (lcm a n) ns)

pub fold_above : (a : ℕ) (ns : List ℕ) → 0 < a → AllByRecursion (λ n. 0 < n) ns → 0 < fold lcm a ns
fold_above a [] h all = h
fold_above a (n ∷ ns) h all = fold_above (lcm a n) ns (lcm_pos a n h all.0) all.1

-- a multiple past the limit stays so
pub stays_past : (limit a : ℕ) (ns : List ℕ) → 0 < a → AllByRecursion (λ n. 0 < n) ns → below limit a ≡ None → below limit (fold lcm a ns) ≡ None
stays_past limit a ns h all e =
    let past : limit ≤ fold lcm a ns = omega (arith, none_above limit a e, le_of_dvd (fold_above a ns h all) (fold_divided a ns)) in
    rw (le-ltb (fold lcm a ns) limit past) refl

pub dens_above : (xs : List Fraction) → AllByRecursion (λ n. 0 < n) (dens xs)
dens_above [] = tt
dens_above (x ∷ xs) = (den_of x, dens_above xs)

-- ---- scaled numbers

pub scaled_is : (unit : ℕ) (x : Fraction) → x.den ∣ unit → scaled_number unit x ≡ x.num *ℤ pos (unit / x.den)
scaled_is unit x h = ap (λ (f : Fraction). f.num) (sym (made_whole x unit h)) ∙ whole_num (x.num *ℤ pos (unit / x.den))

-- ---- what is answered

fitting_none : (z : ℤ) → None ≡ fitting z → 2 ^ 127 ≤ unsigned_abs z
fitting_none z e = ltb-false (unsigned_abs z) (2 ^ 127) (fails (fits z) e)
  where
    fails : (b : Bool) → None ≡ (if b then Some z else None) → b ≡ false
    fails true e = cc
    fails false e = refl

pub fitting_some : (z n : ℤ) → Some n ≡ fitting z → n ≡ z
fitting_some z n e = by (fits z) e
  where
    by : (b : Bool) → Some n ≡ (if b then Some z else None) → n ≡ z
    by true e = cc
    by false e = cc

-- a number that doesn't fit is past the limit
pub small_none : (limit : ℕ) (z : ℤ) → limit ≤ 2 ^ 127 → None ≡ fitting z → None ≡ small limit z
small_none limit z h e = let past : limit ≤ unsigned_abs z = omega (arith, fitting_none z e) in rw (le-ltb (unsigned_abs z) limit past) refl

pub small_within : (limit : ℕ) (z : ℤ) → unsigned_abs z < limit → Some z ≡ small limit z
small_within limit z h = rw (lt-ltb (unsigned_abs z) limit h) refl

pub small_past : (limit : ℕ) (z : ℤ) → limit ≤ unsigned_abs z → None ≡ small limit z
small_past limit z h = rw (le-ltb (unsigned_abs z) limit h) refl

-- the scaled number, as it is computed
pub scaled_from : (unit : ℕ) (x : Fraction) (n : ℤ) (d : ℕ) → x.den ∣ unit → n ≡ x.num → d ≡ x.den → n *ℤ pos (unit / d) ≡ scaled_number unit x
scaled_from unit x n d h e f = ap (λ m. m *ℤ pos (unit / d)) e ∙ ap (λ k. x.num *ℤ pos (unit / k)) f ∙ sym (scaled_is unit x h)
