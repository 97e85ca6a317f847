-- Comparing two ratios by their continued fractions.
use Rattle.std.proofs.Common.{◌≡◌, ℕ, zero, suc, ◌+◌, ◌*◌, ◌/◌, ◌%◌, ◌<◌, ◌≤◌, ◌≢◌, refl, sym, ◌∙◌, ap, arith, ◌⊎◌, inl, inr, ⊎_elim}
use Rattle.std.specs.Ordering.{nat_cmp}
use Rattle.std.specs.declared.cmp.Ordering.TheVariants.{Less, Greater}
use Rattle.std.proofs.lemmas.Bool.{cases_lt}
use Rattle.std.proofs.lemmas.Bool.Decides.{nat_tests}
use Rattle.std.proofs.lemmas.Nat.{mod_below, div-add-mod'}
use native.Mathlib.Nat.{mul-le-mul_right, mul-lt-mul_of_pos_right, mul_comm}

-- the first is below
cmp_less : (x y : ℕ) → x < y → nat_cmp x y ≡ Less
cmp_less x y h = grind (arith, nat_tests)

-- the first is above
cmp_greater : (x y : ℕ) → y < x → nat_cmp x y ≡ Greater
cmp_greater x y h = grind (arith, nat_tests)

-- comparing with a summand on both sides
cmp_shifted : (k x y m n : ℕ) → m ≡ k + x → n ≡ k + y → nat_cmp x y ≡ nat_cmp m n
cmp_shifted k x y m n e f = grind (arith, nat_tests)

-- a smaller whole part
below : (a b c d : ℕ) → 0 < b → 0 < d → a / b < c / d → a * d < c * b
below a b c d hb hd h =
    let up : a < (a / b + 1) * b = omega (arith, div-add-mod' a b, mod_below a b hb) in
    let one : a * d < (a / b + 1) * b * d = mul-lt-mul_of_pos_right up hd in
    let two : (a / b + 1) * (b * d) ≤ c / d * (b * d) = mul-le-mul_right (b * d) (omega arith) in
    let three : c / d * d * b ≤ c * b = mul-le-mul_right b (omega (arith, div-add-mod' c d)) in
    omega (arith, one, two, three)

-- different whole parts decide
pub whole_parts : (a b c d : ℕ) → 0 < b → 0 < d → a / b ≢ c / d → nat_cmp (a / b) (c / d) ≡ nat_cmp (a * d) (c * b)
whole_parts a b c d hb hd h =
    ⊎_elim
    (λ l. cmp_less _ _ l ∙ sym (cmp_less _ _ (below a b c d hb hd l)))
    (λ g. let l : c / d < a / b = omega arith in cmp_greater _ _ l ∙ sym (cmp_greater _ _ (below c d a b hd hb l)))
    (cases_lt (a / b) (c / d))

-- with one whole part, the rests decide
pub rests : (a b c d : ℕ) → a / b ≡ c / d → nat_cmp (a % b * d) (c % d * b) ≡ nat_cmp (a * d) (c * b)
rests a b c d e =
    cmp_shifted (a / b * (b * d)) (a % b * d) (c % d * b) (a * d) (c * b)
    (omega (arith, ap (λ n. n * d) (div-add-mod' a b)))
    (omega (arith, ap (λ n. n * b) (div-add-mod' c d), ap (λ n. n * (d * b)) e))

-- equal whole parts leave the rests, turned over
pub turned : (a b c d : ℕ) → a / b ≡ c / d → nat_cmp (d * (a % b)) (b * (c % d)) ≡ nat_cmp (a * d) (c * b)
turned a b c d e = ap (λ n. nat_cmp n (b * (c % d))) (mul_comm d (a % b)) ∙ ap (λ n. nat_cmp (a % b * d) n) (mul_comm b (c % d)) ∙ rests a b c d e

-- where one side is 0, positive factors change nothing
small : (x y m n : ℕ) → 0 < m → 0 < n → (x ≡ 0) ⊎ (y ≡ 0) → nat_cmp x y ≡ nat_cmp (x * m) (y * n)
small zero y m n hm hn z = ap (λ k. nat_cmp k y) refl ∙ first y
  where
    first : (y : ℕ) → nat_cmp 0 y ≡ nat_cmp (0 * m) (y * n)
    first zero = grind (arith, nat_tests)
    first (suc y) = cmp_less 0 (suc y) (omega arith) ∙ sym (cmp_less (0 * m) (suc y * n) (omega (arith, hn)))
small (suc x) zero m n hm hn z = cmp_greater (suc x) 0 (omega arith) ∙ sym (cmp_greater (suc x * m) (0 * n) (omega (arith, hm)))
small (suc x) (suc y) m n hm hn (inl e) = absurd (omega arith)
small (suc x) (suc y) m n hm hn (inr e) = absurd (omega arith)

-- no rest on the left
pub none_left : (a b c d : ℕ) → 0 < b → 0 < d → a / b ≡ c / d → a % b ≡ 0 → nat_cmp (a % b) (c % d) ≡ nat_cmp (a * d) (c * b)
none_left a b c d hb hd e z = small (a % b) (c % d) d b hd hb (inl z) ∙ rests a b c d e

-- no rest on the right
pub none_right : (a b c d : ℕ) → 0 < b → 0 < d → a / b ≡ c / d → c % d ≡ 0 → nat_cmp (a % b) (c % d) ≡ nat_cmp (a * d) (c * b)
none_right a b c d hb hd e z = small (a % b) (c % d) d b hd hb (inr z) ∙ rests a b c d e
