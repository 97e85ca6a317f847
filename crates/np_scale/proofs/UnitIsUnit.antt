-- The unit is the least number that makes the start values and net changes whole.
use Rattle.std.proofs.Common.{◌≡◌, ℕ, ◌*◌, ◌<◌, ℤ, pos, ◌*ℤ◌, sym, ◌∙◌, ap, subst, arith, List, [], ◌∷◌, map}
use Rattle.std.specs.Prelude.{unsigned_abs}
use Rattle.std.specs.Int.{◌∣◌}
use Rattle.std.specs.List.{AllByRecursion}
use Rattle.std.proofs.lemmas.Int.{unsigned_abs-mul}
use Rattle.std.proofs.lemmas.List.Elements.{All-from_recursion, recursion_from_All}
use native.Mathlib.Nat.{mul-pos, dvd-mul_left}
use Rattle.np_frac.specs.Gcd.{dvd_from_coprime}
use Rattle.np_frac.specs.Fractions.{Fraction, whole, times, coprime}
use Rattle.np_frac.specs.Ring.{var, nat, mul, ring}
use Rattle.np_frac.specs.Laws.{den_of, over_same, times_parts}
use Rattle.np_frac.specs.Field.{whole_num, whole_den}
use Rattle.np_frac.specs.Quotients.{made_whole}
use Rattle.np_scale.specs.Tables.{values_of}
use Rattle.np_scale.specs.Wholes.{lcm_of, all_numbers}
use Rattle.np_scale.specs.Laws.{IsUnit, UnitIsUnit}
use Rattle.np_scale.proofs.Every.{each_weaker, each_unmap, each_map}
use Rattle.np_scale.proofs.Multiples.{each_divides, least_of_all}

-- what a number makes of a fraction, if that is whole
crossed : (x t : Fraction) (m : ℕ) (n : ℤ) (d : ℕ) → n ≡ pos m → d ≡ 1 → t.den ≡ 1 → t.num *ℤ pos (d * x.den) ≡ (n *ℤ x.num) *ℤ pos t.den → t.num *ℤ pos x.den ≡ pos m *ℤ x.num
crossed x t m n d e f g h =
    ring (mul (var t.num) (nat x.den)) (mul (var t.num) (nat (1 * x.den))) (omega arith)
    ∙ ap (λ k. t.num *ℤ pos (k * x.den)) (sym f)
    ∙ h
    ∙ ap (λ k. (n *ℤ x.num) *ℤ pos k) g
    ∙ ap (λ k. (k *ℤ x.num) *ℤ pos 1) e
    ∙ ring (mul (mul (nat m) (var x.num)) (nat 1)) (mul (nat m) (var x.num)) (omega arith)

-- a number that makes a fraction whole is a multiple of its denominator
divides_unit : (m : ℕ) (x : Fraction) → (times (whole (pos m)) x).den ≡ 1 → x.den ∣ m
divides_unit m x e =
    dvd_from_coprime (unsigned_abs x.num) x.den m (coprime x.num x.den x.lowest)
    (subst (λ (k : ℕ). x.den ∣ k) sizes (dvd-mul_left x.den (unsigned_abs (times (whole (pos m)) x).num)))
  where
    same : (times (whole (pos m)) x).num *ℤ pos ((whole (pos m)).den * x.den) ≡ ((whole (pos m)).num *ℤ x.num) *ℤ pos (times (whole (pos m)) x).den
    same =
        subst (λ (t : Fraction). t.num *ℤ pos ((whole (pos m)).den * x.den) ≡ ((whole (pos m)).num *ℤ x.num) *ℤ pos t.den) (sym (times_parts (whole (pos m)) x))
        (over_same ((whole (pos m)).num *ℤ x.num) ((whole (pos m)).den * x.den) (mul-pos (den_of (whole (pos m))) (den_of x)))

    swapped : (a b : ℕ) → a * b ≡ b * a
    swapped a b = omega arith

    sizes : unsigned_abs (times (whole (pos m)) x).num * x.den ≡ unsigned_abs x.num * m
    sizes =
        sym (unsigned_abs-mul (times (whole (pos m)) x).num (pos x.den))
        ∙ ap unsigned_abs (crossed x (times (whole (pos m)) x) m (whole (pos m)).num (whole (pos m)).den (whole_num (pos m)) (whole_den (pos m)) e same)
        ∙ unsigned_abs-mul (pos m) x.num ∙ swapped m (unsigned_abs x.num)

dens_above : (xs : List Fraction) → AllByRecursion (λ n. 0 < n) (map (λ x. x.den) xs)
dens_above [] = tt
dens_above (x ∷ xs) = (den_of x, dens_above xs)

-- so the least common multiple of the denominators is the least of these numbers
lcm_is_unit : (xs : List Fraction) → IsUnit (lcm_of (map (λ x. x.den) xs)) xs
lcm_is_unit xs = record {
  makes_whole = All-from_recursion (λ x. (times (whole (pos (lcm_of (map (λ x. x.den) xs)))) x).den ≡ 1) xs
      (each_weaker (λ x. x.den ∣ lcm_of (map (λ x. x.den) xs)) (λ x. (times (whole (pos (lcm_of (map (λ x. x.den) xs)))) x).den ≡ 1)
      (λ x h. ap (λ (y : Fraction). y.den) (sym (made_whole x (lcm_of (map (λ x. x.den) xs)) h)) ∙ whole_den _) xs
      (each_unmap (λ n. n ∣ lcm_of (map (λ x. x.den) xs)) (λ x. x.den) xs (each_divides (map (λ x. x.den) xs))));
  least = λ m all. least_of_all (map (λ x. x.den) xs) m (dens_above xs)
      (each_map (λ n. n ∣ m) (λ x. x.den) xs
      (each_weaker (λ x. (times (whole (pos m)) x).den ≡ 1) (λ x. x.den ∣ m) (λ x h. divides_unit m x h) xs (recursion_from_All (λ x. (times (whole (pos m)) x).den ≡ 1) xs all)));
}

pub unit_is_unit : UnitIsUnit
unit_is_unit bound = lcm_is_unit (all_numbers bound (values_of bound))
