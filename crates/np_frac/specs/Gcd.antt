-- The greatest common divisor.
use Rattle.std.proofs.Common.{ℕ, zero, suc, max, Bool, true, false, ◌⊎◌, inl, inr, ⊎_elim, ◌≡◌, ◌+◌, ◌*◌, ◌/◌, ◌%◌, ◌<◌, ◌≤◌, refl, sym, ap, subst, ◌∙◌, arith}
use Rattle.std.specs.Prelude.{◌==◌, ◌&&◌, if◌then◌else◌}
use Rattle.std.proofs.lemmas.Bool.{cases_lt}
use Rattle.std.proofs.lemmas.Bool.Decides.{nat_tests}
use Rattle.std.specs.Int.{IsGcd, ◌∣◌}
use Rattle.std.proofs.lemmas.Nat.Gcd.{IsGcd-from_zero, IsGcd-from_mod, same_from_IsGcd, dvd-zero, le_of_dvd, le_from_IsGcd, dvd_of_mod-eq-zero, mod-eq-zero_of_dvd}
use Rattle.std.proofs.lemmas.Nat.{mod_below, mod-mul-add, div-add-mod', le-div}
use native.Mathlib.Nat.{dvd-mul_right, eq-one_of_dvd-one, div-mul_cancel, mul-lt-mul_of_pos_right, eq_of_mul-eq-mul_right, one-mul, pos_of_dvd_of_pos}

-- whether k divides both
abbrev pub divides_both : ℕ → ℕ → ℕ → Bool
divides_both k a b = (a % k == 0) && (b % k == 0)

-- the greatest number of at most `most` that divides both, and 0 where there is none
unfoldable pub greatest_within : (most a b : ℕ) → ℕ
greatest_within zero a b = 0
greatest_within (suc most) a b = if divides_both (suc most) a b then suc most else greatest_within most a b

-- the greatest number that divides both, and 0 for 0 and 0
unfoldable pub gcd : ℕ → ℕ → ℕ
gcd a b = greatest_within (max a b) a b

-- ---- Euclid's steps find it

-- at most `steps` steps
unfoldable euclid : ℕ → ℕ → ℕ → ℕ
euclid zero a b = a
euclid (suc steps) a zero = a
euclid (suc steps) a (suc b) = euclid steps (suc b) (a % suc b)

-- a remainder of multiples is the multiple of the remainder
mod_scaled : (a b c : ℕ) → 0 < b → 0 < c → a * c % (b * c) ≡ a % b * c
mod_scaled a b c hb hc =
    let e : a * c ≡ a / b * (b * c) + a % b * c = omega (arith, ap (λ n. n * c) (div-add-mod' a b)) in
    let low : a % b * c < b * c = mul-lt-mul_of_pos_right (mod_below a b hb) hc in
    ap (λ n. n % (b * c)) e ∙ mod-mul-add (a / b) (b * c) (a % b * c) low

-- the divisor of two multiples
scaled_within : (k a b c : ℕ) → b ≤ k → 0 < c → IsGcd (a * c) (b * c) (euclid k a b * c)
unfolding euclid
scaled_within zero a b c h hc = IsGcd-from_zero (a * c) (b * c) (let none : b ≡ 0 = omega arith in omega (arith, ap (λ n. n * c) none))
scaled_within (suc k) a zero c h hc = IsGcd-from_zero (a * c) (zero * c) (omega arith)
scaled_within (suc k) a (suc b) c h hc =
    let below : a % suc b < suc b = mod_below a (suc b) (omega arith) in
    let next : IsGcd (suc b * c) (a % suc b * c) (euclid k (suc b) (a % suc b) * c) = scaled_within k (suc b) (a % suc b) c (omega arith) hc in
    IsGcd-from_mod (a * c) (suc b * c) _ (subst (λ (n : ℕ). IsGcd (suc b * c) n (euclid k (suc b) (a % suc b) * c)) (sym (mod_scaled a (suc b) c (omega arith) hc)) next)

-- Euclid's steps end at the greatest common divisor
within_is : (k a b : ℕ) → b ≤ k → IsGcd a b (euclid k a b)
unfolding euclid
within_is zero a b h = IsGcd-from_zero a b (omega arith)
within_is (suc k) a zero h = IsGcd-from_zero a zero refl
within_is (suc k) a (suc b) h =
    let below : a % suc b < suc b = mod_below a (suc b) (omega arith) in
    IsGcd-from_mod a (suc b) _ (within_is k (suc b) (a % suc b) (omega arith))

-- what the test says
both_divided : (k a b : ℕ) → divides_both k a b ≡ true → (k ∣ a) × (k ∣ b)
both_divided k a b e = (dvd_of_mod-eq-zero k (grind (arith, nat_tests)), dvd_of_mod-eq-zero k (grind (arith, nat_tests)))

-- and when it holds
divided_both : (k a b : ℕ) → k ∣ a → k ∣ b → divides_both k a b ≡ true
divided_both k a b p q =
    let e : a % k ≡ 0 = mod-eq-zero_of_dvd k p in
    let f : b % k ≡ 0 = mod-eq-zero_of_dvd k q in
    grind (arith, nat_tests)

-- no test has both answers
other : false ≡ true → ⊥
other e = cc

-- what is at most the next number is at most this one or is the next
equal_or_less : (g k : ℕ) → g ≤ suc k → (g ≤ k) ⊎ (g ≡ suc k)
equal_or_less g k le = ⊎_elim (λ l. inl (omega arith)) (λ l. inr (omega arith)) (cases_lt g (suc k))

-- the search from above ends at the greatest common divisor
found : (k a b g : ℕ) → IsGcd a b g → 0 < g → g ≤ k → greatest_within k a b ≡ g
unfolding greatest_within
found zero a b g h some le = absurd (omega arith)
found (suc k) a b g h some le = stop (divides_both (suc k) a b) refl (found k a b g h some)
  where
    stop : (t : Bool) → divides_both (suc k) a b ≡ t → (g ≤ k → greatest_within k a b ≡ g) → (if t then suc k else greatest_within k a b) ≡ g
    stop true e rest = let d = both_divided (suc k) a b e in omega (arith, le_from_IsGcd a b g (suc k) h some d.0 d.1)
    stop false e rest =
        rest (⊎_elim (λ l. omega arith) (λ (q : g ≡ suc k). absurd (other (sym e ∙ subst (λ (n : ℕ). divides_both n a b ≡ true) q (divided_both g a b h.0 h.1)))) (equal_or_less g k le))

-- Euclid's steps and the search agree
gcd_is : (a b : ℕ) → gcd a b ≡ euclid b a b
unfolding gcd greatest_within euclid
gcd_is zero zero = refl
gcd_is (suc a) b =
    let h : IsGcd (suc a) b (euclid b (suc a) b) = within_is b (suc a) b (omega arith) in
    found (max (suc a) b) (suc a) b _ h (pos_of_dvd_of_pos h.0 (omega arith)) (omega (arith, le_of_dvd (omega arith) h.0))
gcd_is zero (suc b) =
    let h : IsGcd zero (suc b) (euclid (suc b) zero (suc b)) = within_is (suc b) zero (suc b) (omega arith) in
    found (max zero (suc b)) zero (suc b) _ h (pos_of_dvd_of_pos h.1 (omega arith)) (omega (arith, le_of_dvd (omega arith) h.1))

-- it divides both, and each divisor of both divides it
pub IsGcd-gcd : (a b : ℕ) → IsGcd a b (gcd a b)
IsGcd-gcd a b = subst (λ (g : ℕ). IsGcd a b g) (sym (gcd_is a b)) (within_is b a b (omega arith))

-- the divisor of two multiples is the multiple of the divisor
pub IsGcd-scaled : (a b c : ℕ) → 0 < c → IsGcd (a * c) (b * c) (gcd a b * c)
IsGcd-scaled a b c h =
    subst (λ (g : ℕ). IsGcd (a * c) (b * c) (g * c)) (sym (gcd_is a b)) (scaled_within b a b c (omega arith) h)

-- nothing else does
pub gcd_from_IsGcd : (a b g : ℕ) → IsGcd a b g → g ≡ gcd a b
gcd_from_IsGcd a b g h = same_from_IsGcd a b g (gcd a b) h (IsGcd-gcd a b)

-- it is positive
pub gcd_pos : (a b : ℕ) → 0 < b → 0 < gcd a b
gcd_pos a b h = pos_of_dvd_of_pos (IsGcd-gcd a b).1 h

-- what divides a product and has no divisor in common with one factor divides the other
pub dvd_from_coprime : (a b c : ℕ) → gcd a b ≡ 1 → b ∣ a * c → b ∣ c
dvd_from_coprime a b zero h d = dvd-zero b
dvd_from_coprime a b (suc c) h d =
    let both : b ∣ gcd a b * suc c = (IsGcd-scaled a b (suc c) (omega arith)).2 b d (dvd-mul_right b (suc c)) in
    subst (λ (n : ℕ). b ∣ n) (omega (arith, ap (λ n. n * suc c) h)) both

-- the quotients by the greatest divisor have no other divisor than 1
pub gcd-quotients : (a b : ℕ) → 0 < b → gcd (a / gcd a b) (b / gcd a b) ≡ 1
gcd-quotients a b h =
    let g : ℕ = gcd a b in
    let is : IsGcd a b g = IsGcd-gcd a b in
    let some : 0 < g = gcd_pos a b h in
    let scaled : IsGcd (a / g * g) (b / g * g) (gcd (a / g) (b / g) * g) = IsGcd-scaled (a / g) (b / g) g some in
    let same : gcd (a / g) (b / g) * g ≡ g =
    same_from_IsGcd a b _ g (subst (λ (n : ℕ). IsGcd n b (gcd (a / g) (b / g) * g)) (div-mul_cancel _ is.0) (subst (λ (n : ℕ). IsGcd (a / g * g) n (gcd (a / g) (b / g) * g)) (div-mul_cancel _ is.1) scaled)) is in
    eq_of_mul-eq-mul_right g some _ 1 (same ∙ sym (one-mul g))

-- so is the quotient by it
pub gcd-quotient_pos : (a b : ℕ) → 0 < b → 0 < b / gcd a b
gcd-quotient_pos a b h =
    le-div 1 b (gcd a b) (gcd_pos a b h) (omega (arith, le_of_dvd h (IsGcd-gcd a b).1))

-- 1 shares only 1
pub gcd-one : (a : ℕ) → gcd a 1 ≡ 1
gcd-one a = eq-one_of_dvd-one (IsGcd-gcd a 1).1

-- 0 shares everything
pub gcd-zero : (a : ℕ) → gcd a 0 ≡ a
gcd-zero a = same_from_IsGcd a 0 _ _ (IsGcd-gcd a 0) (IsGcd-from_zero a 0 refl)

-- one of Euclid's steps
pub gcd-step : (a b : ℕ) → gcd b (a % b) ≡ gcd a b
gcd-step a b = gcd_from_IsGcd a b _ (IsGcd-from_mod a b _ (IsGcd-gcd b (a % b)))

-- it is at most the second number
pub gcd_le : (a b : ℕ) → 0 < b → gcd a b ≤ b
gcd_le a b h = le_of_dvd h (IsGcd-gcd a b).1
