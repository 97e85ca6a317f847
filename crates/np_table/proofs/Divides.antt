-- Dividing a product without computing it.
use Rattle.std.proofs.Common.{◌≡◌, ℕ, ◌+◌, ◌-◌, ◌*◌, ◌/◌, ◌%◌, ◌^◌, ◌<◌, ◌≤◌, sym, ap, ◌∙◌, subst, inl, inr, arith}
use Rattle.std.proofs.Math.Nat.{mul-le-mul_left}
use Rattle.std.proofs.lemmas.Bool.{cases_lt}
use Rattle.np_table.specs.Tables.{over_up}
use Rattle.np_flat.proofs.Forms.{product_small}
use Rattle.np_table.proofs.Quotients.{below_over_up, over_up_least}

-- how far a quotient reaches
over_up_covers : (x y : ℕ) → 0 < y → x ≤ over_up x y * y
over_up_covers x y h =
    let z : y * ((x + (y - 1)) / y) + (x + (y - 1)) % y ≡ x + (y - 1) = omega arith in
    let r : (x + (y - 1)) % y < y = omega arith in
    omega arith

below_up : (k x y : ℕ) → 0 < y → k * y < x → k < over_up x y
below_up k x y h lt =
    elim (cases_lt k (over_up x y)) [
      | inl below ↦ below
      | inr ge ↦ let c = over_up_covers x y h in let m : y * over_up x y ≤ y * k = mul-le-mul_left y ge in absurd (omega arith)
    ]

-- a whole multiple comes out
pub over_up_whole : (k x y : ℕ) → 0 < y → over_up (k * y + x) y ≡ k + over_up x y
over_up_whole k x y h =
    let most : over_up (k * y + x) y ≤ k + over_up x y = over_up_least (k + over_up x y) (k * y + x) y h (let c = over_up_covers x y h in omega arith) in
    elim (cases_lt (over_up (k * y + x) y) (k + over_up x y)) [
      | inl lt ↦ absurd (less lt)
      | inr ge ↦ omega arith
    ]
  where
    less : over_up (k * y + x) y < k + over_up x y → ⊥
    less lt = elim (cases_lt (over_up (k * y + x) y) k) [
      | inl low ↦
          let c = over_up_covers (k * y + x) y h in
          let m : y * (over_up (k * y + x) y + 1) ≤ y * k = mul-le-mul_left y (omega arith) in
          omega arith
      | inr high ↦ go (over_up (k * y + x) y - k) (omega arith) (omega arith)
    ]
      where
        go : (j : ℕ) → over_up (k * y + x) y ≡ k + j → j < over_up x y → ⊥
        go j e small =
            let b : j * y < x = below_over_up j x y h small in
            let c = over_up_covers (k * y + x) y h in
            let m : y * over_up (k * y + x) y ≡ y * (k + j) = ap (λ n. y * n) e in
            omega arith

divides : (x y : ℕ) → 0 < y → x ≡ y * (x / y) + x % y
divides x y h = omega arith

split : (lack cost net w r hh l first f g a b : ℕ) → lack ≡ net * w + r → cost ≡ 65536 * hh + l → first ≡ r * hh → first ≡ net * f + g → a ≡ g * 65536 → b ≡ r * l → lack * cost ≡ (w * cost + f * 65536) * net + (a + b)
split lack cost net w r hh l first f g a b e1 e2 e3 e4 e5 e6 =
    omega (arith, ap (λ x. x * cost) e1, ap (λ x. r * x) e2, ap (λ x. x * 65536) e4, ap (λ x. x * 65536) e3)

pub share_value : (lack cost net first a b : ℕ) → 0 < net → first ≡ (lack % net) * (cost / 65536) → a ≡ (first % net) * 65536 → b ≡ (lack % net) * (cost % 65536)
    → lack / net * cost + first / net * 65536 + (a + b + (net - 1)) / net ≡ over_up (lack * cost) net
share_value lack cost net first a b h e3 e5 e6 =
    sym (ap (λ x. over_up x net) (split lack cost net (lack / net) (lack % net) (cost / 65536) (cost % 65536) first (first / net) (first % net) a b (divides lack net h) (divides cost 65536 (omega arith)) e3 (divides first net h) e5 e6)
    ∙ over_up_whole (lack / net * cost + first / net * 65536) (a + b) net h)

quotient_le : (x y : ℕ) → 0 < y → x / y ≤ x
quotient_le x y h = let d = divides x y h in let m : x / y * 1 ≤ x / y * y = mul-le-mul_left (x / y) h in omega arith

pub sum_small : (lack cost net first s : ℕ) → 0 < net → net < 2 ^ 110 → cost < 2 ^ 32 → lack / net ≤ 4611686018427387903 → first ≡ (lack % net) * (cost / 65536) → s ≤ 2 ^ 126 + 2 ^ 126 → lack / net * cost + first / net * 65536 + (s + (net - 1)) / net < 2 ^ 128
sum_small lack cost net first s h few c w e small =
    let one : lack / net * cost ≤ 4611686018427387903 * 2 ^ 32 = product_small (lack / net) cost 4611686018427387903 (2 ^ 32) w (omega arith) in
    let rest : lack % net < net = omega arith in
    let high : cost / 65536 ≤ 65536 = omega arith in
    let top : first ≤ net * 65536 = subst (λ x. x ≤ net * 65536) (sym e) (product_small (lack % net) (cost / 65536) net 65536 (omega arith) high) in
    let two : first / net ≤ 65536 = below first net h top in
    let three : (s + (net - 1)) / net ≤ s + (net - 1) = quotient_le (s + (net - 1)) net h in
    omega arith
  where
    below : (x y : ℕ) → 0 < y → x ≤ y * 65536 → x / y ≤ 65536
    below x y pos le = elim (cases_lt 65536 (x / y)) [
      | inl lt ↦ let d : x ≡ y * (x / y) + x % y = divides x y pos in let m : y * 65537 ≤ y * (x / y) = mul-le-mul_left y (omega arith) in absurd (omega arith)
      | inr ge ↦ ge
    ]
