-- Least common multiples.
use Rattle.std.proofs.Common.{◌≡◌, ℕ, ◌*◌, ◌/◌, ◌<◌, sym, ◌∙◌, ap, subst, arith, lit<, List, [], ◌∷◌, fold}
use Rattle.std.specs.Int.{◌∣◌, IsGcd}
use Rattle.std.specs.List.{AllByRecursion}
use native.Mathlib.Nat.{dvd_trans, dvd-mul_left, dvd-mul_right, mul-dvd-mul_left, mul-dvd-mul_right, dvd_of_mul-dvd-mul_right, div-mul_cancel, pos_of_dvd_of_pos, mul-pos, one-dvd}
use Rattle.np_frac.specs.Gcd.{gcd, IsGcd-gcd, gcd_pos, gcd-quotients, dvd_from_coprime}
use Rattle.np_scale.specs.Wholes.{lcm, lcm_of}

-- ---- of two numbers

crossed : (m n g p q : ℕ) → p * g ≡ m → q * g ≡ n → m * q ≡ p * n
crossed m n g p q e f = ap (λ x. x * q) (sym e) ∙ turned ∙ ap (λ x. p * x) f
  where
    turned : p * g * q ≡ p * (q * g)
    turned = omega arith

-- it is a multiple of both
pub first_divides : (m n : ℕ) → m ∣ lcm m n
first_divides m n =
    let g : ℕ = gcd m n in
    let is : IsGcd m n g = IsGcd-gcd m n in
    subst (λ (x : ℕ). m ∣ x) (crossed m n g (m / g) (n / g) (div-mul_cancel g is.0) (div-mul_cancel g is.1)) (dvd-mul_right m (n / g))

pub second_divides : (m n : ℕ) → n ∣ lcm m n
second_divides m n = dvd-mul_left n (m / gcd m n)

least_of : (m n k g p q r : ℕ) → 0 < g → p * g ≡ m → q * g ≡ n → r * m ≡ k → gcd p q ≡ 1 → n ∣ k → p * n ∣ k
least_of m n k g p q r above first second third apart h =
    let scaled : q * g ∣ p * r * g = subst (λ (x : ℕ). x ∣ p * r * g) (sym second) (subst (λ (x : ℕ). n ∣ x) (sym third ∙ ap (λ x. r * x) (sym first) ∙ turned) h) in
    let small : q ∣ r = dvd_from_coprime p q r apart (dvd_of_mul-dvd-mul_right q above scaled) in
    let more : n ∣ r * g = subst (λ (x : ℕ). x ∣ r * g) second (mul-dvd-mul_right q small g) in
    subst (λ (x : ℕ). p * n ∣ x) (back ∙ ap (λ x. r * x) first ∙ third) (mul-dvd-mul_left n p more)
  where
    turned : r * (p * g) ≡ p * r * g
    turned = omega arith

    back : p * (r * g) ≡ r * (p * g)
    back = omega arith

-- and divides each multiple of both
pub least : (m n k : ℕ) → 0 < n → m ∣ k → n ∣ k → lcm m n ∣ k
least m n k some h j =
    let g : ℕ = gcd m n in
    let is : IsGcd m n g = IsGcd-gcd m n in
    least_of m n k g (m / g) (n / g) (k / m) (gcd_pos m n some) (div-mul_cancel g is.0) (div-mul_cancel g is.1) (div-mul_cancel m h) (gcd-quotients m n some) j

pub lcm_pos : (m n : ℕ) → 0 < m → 0 < n → 0 < lcm m n
lcm_pos m n h k =
    let g : ℕ = gcd m n in
    let is : (m / g * g ≡ m) = div-mul_cancel g (IsGcd-gcd m n).0 in
    let divides : m / g ∣ m = subst (λ (x : ℕ). m / g ∣ x) is (dvd-mul_right (m / g) g) in
    mul-pos (pos_of_dvd_of_pos divides h) k

-- ---- of several

-- what divides the number so far divides the least common multiple with others
fold_divides : (a : ℕ) (ns : List ℕ) (m : ℕ) → m ∣ a → m ∣ fold lcm a ns
fold_divides a [] m h = h
fold_divides a (n ∷ ns) m h = fold_divides (lcm a n) ns m (dvd_trans m h (first_divides a n))

each_of : (a : ℕ) (ns : List ℕ) → AllByRecursion (λ n. n ∣ fold lcm a ns) ns
each_of a [] = tt
each_of a (n ∷ ns) = (fold_divides (lcm a n) ns n (second_divides a n), each_of (lcm a n) ns)

fold_least : (a : ℕ) (ns : List ℕ) (k : ℕ) → AllByRecursion (λ n. 0 < n) ns → a ∣ k → AllByRecursion (λ n. n ∣ k) ns → fold lcm a ns ∣ k
fold_least a [] k some h all = h
fold_least a (n ∷ ns) k some h all = fold_least (lcm a n) ns k some.1 (least a n k some.0 h all.0) all.1

fold_pos : (a : ℕ) (ns : List ℕ) → 0 < a → AllByRecursion (λ n. 0 < n) ns → 0 < fold lcm a ns
fold_pos a [] h some = h
fold_pos a (n ∷ ns) h some = fold_pos (lcm a n) ns (lcm_pos a n h some.0) some.1

-- each number divides it
pub each_divides : (ns : List ℕ) → AllByRecursion (λ n. n ∣ lcm_of ns) ns
each_divides ns = each_of 1 ns

-- it divides each number that all divide
pub least_of_all : (ns : List ℕ) (k : ℕ) → AllByRecursion (λ n. 0 < n) ns → AllByRecursion (λ n. n ∣ k) ns → lcm_of ns ∣ k
least_of_all ns k some all = fold_least 1 ns k some (one-dvd k) all

pub lcm_of_pos : (ns : List ℕ) → AllByRecursion (λ n. 0 < n) ns → 0 < lcm_of ns
lcm_of_pos ns some = fold_pos 1 ns (lit< tt) some
