-- The factor of coefficients: each becomes whole, and no number but 1 divides all of these.
use Rattle.std.proofs.Common.{◌≡◌, ◌≢◌, ℕ, suc, ◌*◌, ◌/◌, ◌<◌, false, ℤ, pos, negsuc, ◌*ℤ◌, ◌<ℤ◌, refl, sym, ◌∙◌, ap, subst, arith, lit<, List, [], ◌∷◌, map}
use Rattle.std.specs.Prelude.{unsigned_abs}
use Rattle.std.specs.Int.{◌∣◌, IsGcd}
use Rattle.std.specs.Ordering.{int_eq}
use Rattle.std.specs.List.{AllByRecursion}
use Rattle.std.proofs.lemmas.Int.{ints, unsigned_abs-mul}
use Rattle.std.proofs.lemmas.List.Elements.{All-from_recursion, recursion_from_All, All-head}
use native.Mathlib.Nat.{mul-pos, div-mul_cancel, dvd_antisymm, dvd-mul_right, mul-dvd-mul_left, dvd_of_mul-dvd-mul_right, pos_of_dvd_of_pos, eq_of_mul-eq-mul_right, div-one, mul_comm, one-mul}
use Rattle.np_frac.specs.Gcd.{gcd, IsGcd-scaled}
use Rattle.np_frac.specs.Fractions.{Fraction, over, whole, times, coprime}
use Rattle.np_frac.specs.Checked.{reciprocal, is_zero}
use Rattle.np_frac.specs.Ring.{nat, mul, neg, ring}
use Rattle.np_frac.specs.Laws.{den_of, over_equal, over_parts}
use Rattle.np_frac.specs.Field.{frac, int, product, field, amount_is, whole_num, whole_den, whole_times, times_comm, times-one}
use Rattle.np_frac.specs.Quotients.{times_reciprocal, one_factor, made_whole}
use Rattle.np_scale.specs.Code.{sign_of}
use Rattle.np_scale.specs.Wholes.{lcm_of, absolute, factor_of}
use Rattle.np_scale.specs.Laws.{FactorMakesWhole}
use Rattle.np_scale.proofs.Every.{each_weaker, each_unmap, each_map, each_both}
use Rattle.np_scale.proofs.Multiples.{each_divides, least_of_all, lcm_of_pos}
use Rattle.np_scale.proofs.Positive.{over_above, times_above, whole_above, reciprocal_above, above_some, some_from}

-- ---- the sign of a fraction

-- 1 or -1, and the size is so many times the fraction
pub record HasSign (a : Fraction) : Type 0 where
  pub sign : ℤ
  pub is : sign ≡ sign_of a.num
  pub square : sign *ℤ sign ≡ pos 1
  pub one : unsigned_abs sign ≡ 1
  pub size : absolute a ≡ times (whole sign) a

pub has_sign : (a : Fraction) → HasSign a
has_sign a = by a.num refl
  where
    by : (n : ℤ) → a.num ≡ n → HasSign a
    by (pos m) e = record {
      sign = pos 1;
      is = ap sign_of (sym e);
      square = refl;
      one = refl;
      size =
          ap (λ z. over (pos (unsigned_abs z)) a.den) e ∙ ap (λ z. over z a.den) (sym e) ∙ over_parts a
          ∙ sym (times_comm (whole (pos 1)) a ∙ times-one a);
    }
    by (negsuc m) e = record {
      sign = negsuc 0;
      is = ap sign_of (sym e);
      square = refl;
      one = refl;
      size =
          ap (λ z. over (pos (unsigned_abs z)) a.den) e
          ∙ over_equal (pos (suc m)) a.den (negsuc 0 *ℤ negsuc m) (1 * a.den) (den_of a) (mul-pos (lit< tt) (den_of a))
          (ring (mul (nat (suc m)) (nat (1 * a.den))) (mul (mul (neg (nat 1)) (neg (nat (suc m)))) (nat a.den)) (omega arith))
          ∙ ap (λ z. over (negsuc 0 *ℤ z) (1 * a.den)) (sym e)
          ∙ sym (amount_is (product (int (negsuc 0)) (frac a)));
    }

-- the size is above 0
size_above : (a : Fraction) → is_zero a ≡ false → pos 0 <ℤ (absolute a).num
size_above a some = over_above (pos (unsigned_abs a.num)) a.den (den_of a) (by a.num some)
  where
    by : (n : ℤ) → int_eq n (pos 0) ≡ false → pos 0 <ℤ pos (unsigned_abs n)
    by n e = grind (arith, ints)

exchanged : (s r a : Fraction) → times (times s r) (times s a) ≡ times (times s s) (times a r)
exchanged s r a = field (product (product (frac s) (frac r)) (product (frac s) (frac a))) (product (product (frac s) (frac s)) (product (frac a) (frac r))) (omega arith)

-- 1 over the size is so many times 1 over the fraction
over_size : (a : Fraction) (h : HasSign a) → is_zero a ≡ false → reciprocal (absolute a) ≡ times (whole h.sign) (reciprocal a)
over_size a h some =
    sym (times-one (reciprocal (absolute a))) ∙ times_comm (reciprocal (absolute a)) (whole (pos 1))
    ∙ one_factor (times (whole h.sign) (reciprocal a)) (absolute a) (whole (pos 1)) (above_some (absolute a) (size_above a some)) together
  where
    together : whole (pos 1) ≡ times (times (whole h.sign) (reciprocal a)) (absolute a)
    together =
        sym (times-one (whole (pos 1)))
        ∙ ap (λ x. times (whole (pos 1)) x) (sym (times_reciprocal a some))
        ∙ ap (λ x. times x (times a (reciprocal a))) (ap whole (sym h.square) ∙ sym (whole_times h.sign h.sign))
        ∙ sym (exchanged (whole h.sign) (reciprocal a) a)
        ∙ ap (times (times (whole h.sign) (reciprocal a))) (sym h.size)

moved : (d s r b : Fraction) → times (times d (times s r)) b ≡ times s (times d (times b r))
moved d s r b = field (product (product (frac d) (product (frac s) (frac r))) (frac b)) (product (frac s) (product (frac d) (product (frac b) (frac r)))) (omega arith)

-- ---- coefficients times the factor

-- the ratio of a coefficient to the first one
abbrev pub ratio_to : Fraction → Fraction → Fraction
ratio_to a b = times b (reciprocal a)

abbrev pub ratio_dens : Fraction → List Fraction → List ℕ
ratio_dens a bs = map (λ b. (times b (reciprocal a)).den) bs

-- the least common multiple of their denominators
abbrev pub multiple_of : Fraction → List Fraction → ℕ
multiple_of a more = lcm_of (ratio_dens a (a ∷ more))

-- such a ratio times a multiple of its denominator
abbrev pub cleared : ℕ → Fraction → ℤ
cleared m q = q.num *ℤ pos (m / q.den)

pub factor_times : (a : Fraction) (more : List Fraction) (h : HasSign a) → is_zero a ≡ false → (b : Fraction) → (ratio_to a b).den ∣ multiple_of a more
    → times (factor_of (a ∷ more)) b ≡ whole (h.sign *ℤ cleared (multiple_of a more) (ratio_to a b))
factor_times a more h some b divides =
    let m : ℕ = multiple_of a more in
    ap (λ x. times (times (whole (pos m)) x) b) (over_size a h some)
    ∙ moved (whole (pos m)) (whole h.sign) (reciprocal a) b
    ∙ ap (times (whole h.sign)) (sym (made_whole (ratio_to a b) m divides))
    ∙ whole_times h.sign (cleared m (ratio_to a b))

pub dens_above : (a : Fraction) (bs : List Fraction) → AllByRecursion (λ n. 0 < n) (ratio_dens a bs)
dens_above a [] = tt
dens_above a (b ∷ bs) = (den_of (ratio_to a b), dens_above a bs)

-- each ratio's denominator divides the multiple
pub ratios_divide : (a : Fraction) (bs : List Fraction) → AllByRecursion (λ b. (ratio_to a b).den ∣ lcm_of (ratio_dens a bs)) bs
ratios_divide a bs = each_unmap (λ n. n ∣ lcm_of (ratio_dens a bs)) (λ b. (ratio_to a b).den) bs (each_divides (ratio_dens a bs))

-- the size of such a whole number
pub size_cleared : (s : ℤ) (m : ℕ) (q : Fraction) → unsigned_abs s ≡ 1 → unsigned_abs (s *ℤ cleared m q) ≡ unsigned_abs q.num * (m / q.den)
size_cleared s m q one =
    unsigned_abs-mul s (cleared m q) ∙ ap (λ n. n * unsigned_abs (cleared m q)) one ∙ one-mul (unsigned_abs (cleared m q)) ∙ unsigned_abs-mul q.num (pos (m / q.den))

-- what divides a multiple and a cleared ratio leaves the ratio's denominator room
leaves_room : (g m : ℕ) (q : Fraction) → 0 < m → q.den ∣ m → g ∣ m → g ∣ unsigned_abs q.num * (m / q.den) → q.den ∣ m / g
leaves_room g m q above divides h j = dvd_of_mul-dvd-mul_right q.den (pos_of_dvd_of_pos h above) room
  where
    again : m / q.den * q.den ≡ m
    again = div-mul_cancel q.den divides

    first : m / q.den ∣ m
    first = subst (λ (x : ℕ). m / q.den ∣ x) again (dvd-mul_right (m / q.den) q.den)

    turned : q.den * (m / q.den) ≡ m
    turned = mul_comm q.den (m / q.den) ∙ again

    rest : g ∣ m / q.den
    rest =
        let is : IsGcd (unsigned_abs q.num * (m / q.den)) (q.den * (m / q.den)) (gcd (unsigned_abs q.num) q.den * (m / q.den)) = IsGcd-scaled (unsigned_abs q.num) q.den (m / q.den) (pos_of_dvd_of_pos first above) in
        subst (λ (x : ℕ). g ∣ x) (ap (λ n. n * (m / q.den)) (coprime q.num q.den q.lowest) ∙ one-mul (m / q.den)) (is.2 g j (subst (λ (x : ℕ). g ∣ x) (sym turned) h))

    room : q.den * g ∣ m / g * g
    room = subst (λ (x : ℕ). q.den * g ∣ x) (turned ∙ sym (div-mul_cancel g h)) (mul-dvd-mul_left g q.den rest)

-- a number whose quotient by g is no smaller
only_one : (g m : ℕ) → 0 < m → g ∣ m → m ∣ m / g → g ≡ 1
only_one g m above h j =
    let again : m / g * g ≡ m = div-mul_cancel g h in
    let same : m / g ≡ m = dvd_antisymm (subst (λ (x : ℕ). m / g ∣ x) again (dvd-mul_right (m / g) g)) j in
    eq_of_mul-eq-mul_right m above g 1 (mul_comm g m ∙ ap (λ n. n * g) (sym same) ∙ again ∙ sym (one-mul m))

-- the first ratio is 1, so the first whole number is the multiple in size
pub first_cleared : (m : ℕ) (q : Fraction) → q ≡ whole (pos 1) → unsigned_abs q.num * (m / q.den) ≡ m
first_cleared m q e =
    ap (λ (x : Fraction). unsigned_abs x.num * (m / x.den)) e ∙ ap (λ z. unsigned_abs z * (m / (whole (pos 1)).den)) (whole_num (pos 1)) ∙ ap (λ d. 1 * (m / d)) (whole_den (pos 1))
    ∙ one-mul (m / 1) ∙ div-one m

-- the factor is above 0
pub factor_above : (a : Fraction) (more : List Fraction) → is_zero a ≡ false → pos 0 <ℤ (factor_of (a ∷ more)).num
factor_above a more some =
    times_above (whole (pos (multiple_of a more))) (reciprocal (absolute a))
    (whole_above (multiple_of a more) (lcm_of_pos (ratio_dens a (a ∷ more)) (dens_above a (a ∷ more))))
    (reciprocal_above (absolute a) (size_above a some))

pub factor_makes_whole : FactorMakesWhole
factor_makes_whole a more others = record {
  positive = factor_above a more some;
  whole = All-from_recursion (λ b. (times (factor_of (a ∷ more)) b).den ≡ 1) (a ∷ more)
      (each_weaker (λ b. (ratio_to a b).den ∣ (multiple_of a more)) (λ b. (times (factor_of (a ∷ more)) b).den ≡ 1) (λ b d. ap (λ (x : Fraction). x.den) (is b d) ∙ whole_den (h.sign *ℤ cleared (multiple_of a more) (ratio_to a b))) (a ∷ more) divide);
  apart = λ g all. apart g (recursion_from_All (λ b. g ∣ unsigned_abs (times (factor_of (a ∷ more)) b).num) (a ∷ more) all);
}
  where
    some : is_zero a ≡ false
    some = some_from a (All-head (λ (b : Fraction). b ≢ whole (pos 0)) a more others)

    h : HasSign a
    h = has_sign a

    above : 0 < multiple_of a more
    above = lcm_of_pos (ratio_dens a (a ∷ more)) (dens_above a (a ∷ more))

    divide : AllByRecursion (λ b. (ratio_to a b).den ∣ (multiple_of a more)) (a ∷ more)
    divide = ratios_divide a (a ∷ more)

    is : (b : Fraction) → (ratio_to a b).den ∣ (multiple_of a more) → times (factor_of (a ∷ more)) b ≡ whole (h.sign *ℤ cleared (multiple_of a more) (ratio_to a b))
    is b d = factor_times a more h some b d

    size : (b : Fraction) → (ratio_to a b).den ∣ (multiple_of a more) → unsigned_abs (times (factor_of (a ∷ more)) b).num ≡ unsigned_abs (ratio_to a b).num * ((multiple_of a more) / (ratio_to a b).den)
    size b d =
        ap (λ (x : Fraction). unsigned_abs x.num) (is b d) ∙ ap unsigned_abs (whole_num (h.sign *ℤ cleared (multiple_of a more) (ratio_to a b)))
        ∙ size_cleared h.sign (multiple_of a more) (ratio_to a b) h.one

    apart : (g : ℕ) → AllByRecursion (λ b. g ∣ unsigned_abs (times (factor_of (a ∷ more)) b).num) (a ∷ more) → g ≡ 1
    apart g all =
        let first : g ∣ multiple_of a more = subst (λ (x : ℕ). g ∣ x) (size a divide.0 ∙ first_cleared (multiple_of a more) (ratio_to a a) (times_reciprocal a some)) all.0 in
        only_one g (multiple_of a more) above first
        (least_of_all (ratio_dens a (a ∷ more)) ((multiple_of a more) / g) (dens_above a (a ∷ more))
        (each_map (λ n. n ∣ (multiple_of a more) / g) (λ b. (ratio_to a b).den) (a ∷ more)
        (each_weaker (λ b. ((ratio_to a b).den ∣ (multiple_of a more)) × (g ∣ unsigned_abs (times (factor_of (a ∷ more)) b).num)) (λ b. (ratio_to a b).den ∣ (multiple_of a more) / g)
        (λ b both. leaves_room g (multiple_of a more) (ratio_to a b) above both.0 first (subst (λ (x : ℕ). g ∣ x) (size b both.0) both.1))
        (a ∷ more) (each_both (λ b. (ratio_to a b).den ∣ (multiple_of a more)) (λ b. g ∣ unsigned_abs (times (factor_of (a ∷ more)) b).num) (a ∷ more) divide all))))
