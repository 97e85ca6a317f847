-- Quotients rounded up.
use Rattle.std.proofs.Common.{ℕ, ◌+◌, ◌-◌, ◌*◌, ◌/◌, ◌<◌, ◌≤◌, inl, inr, arith}
use Rattle.std.proofs.lemmas.Bool.{cases_lt}
use Rattle.std.proofs.Math.Nat.{mul-le-mul_left}
use Rattle.np_table.specs.Tables.{over_up}

-- what is below the quotient, times the divisor, is below the dividend
pub below_over_up : (k x y : ℕ) → 0 < y → k < over_up x y → k * y < x
below_over_up k x y h lt =
    let le : k + 1 ≤ (x + (y - 1)) / y = omega arith in
    let times : y * (k + 1) ≤ y * ((x + (y - 1)) / y) = mul-le-mul_left y le in
    omega arith

-- and the other way round
pub over_up_least : (k x y : ℕ) → 0 < y → x ≤ k * y → over_up x y ≤ k
over_up_least k x y h le =
    elim (cases_lt k (over_up x y)) [
      | inl lt ↦ absurd (omega (arith, below_over_up k x y h lt))
      | inr ge ↦ ge
    ]

-- a sum of products
pub more_each : (k a b lack s c : ℕ) → k * a < lack * s → k * b < lack * c → k * (a + b) < lack * (s + c)
more_each k a b lack s c h i = omega arith

-- a product that can't be below itself
pub not_below : (k amount lack : ℕ) → k * amount < lack * k → lack ≤ amount → ⊥
not_below k amount lack h le =
    let times : k * lack ≤ k * amount = mul-le-mul_left k le in
    omega arith
