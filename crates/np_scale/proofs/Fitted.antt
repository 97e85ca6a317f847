-- The factor of a form: where it is answered, and where a whole coefficient is past its limit.
use Rattle.std.proofs.Common.{◌≡◌, ℕ, ◌+◌, ◌*◌, ◌/◌, ◌^◌, ◌<◌, ◌≤◌, Bool, true, false, ℤ, pos, neg_ℤ, ◌*ℤ◌, refl, sym, ◌∙◌, ap, subst, arith, lit<, List, [], ◌∷◌, map, length, drop, Option, Some, None, get_or, ◌⊎◌, inl, inr, ⊎_elim}
use Rattle.std.specs.Prelude.{◌&&◌, not, ◌+ℤ◌, if◌then◌else◌, nat_lt, unsigned_abs, fold, IfSome, is_some}
use Rattle.std.specs.Int.{◌∣◌}
use Rattle.std.specs.List.{AllByRecursion}
use Rattle.std.proofs.lemmas.Int.{ints}
use Rattle.std.proofs.lemmas.Bool.{le-ltb, ltb-false, and_cases, and_left, false≢true}
use Rattle.std.proofs.lemmas.List.{get_or-map, length-map, drop_more}
use Rattle.std.proofs.lemmas.List.Folds.{list_all_at}
use Rattle.std.proofs.lemmas.List.Elements.{All-get_or, All-head, All-from_recursion}
use Rattle.std.proofs.lemmas.Nat.{le-div}
use Rattle.std.proofs.lemmas.Nat.Gcd.{le_of_dvd}
use native.Mathlib.Nat.{mul-le-mul_left, mul-pos}
use Rattle.np_frac.specs.Gcd.{gcd-one}
use Rattle.np_frac.specs.Fractions.{Fraction, over, whole, times}
use Rattle.np_frac.specs.Ring.{var, nat, add, mul, neg, ring}
use Rattle.np_model.specs.Values.{negated}
use Rattle.np_frac.specs.Checked.{fits, times_fits, reciprocal, is_zero, checked_quotient, ratio}
use Rattle.std.specs.Ordering.{int_eq}
use Rattle.np_frac.specs.Laws.{den_of, over_equal}
use Rattle.np_frac.specs.Field.{frac, int, rest, amount_is, whole_num, whole_den}
use Rattle.np_frac.specs.Quotients.{times_reciprocal, one_factor}
use Rattle.np_flat.specs.declared.limits.TheConstants.{COEFFICIENT_SIZE}
use Rattle.np_scale.specs.Wholes.{lcm, lcm_of, factor_of, whole_times}
use Rattle.np_scale.specs.Limits.{is_below, factor_fits}
use Rattle.np_scale.specs.Code.{sign_of, below, small, small_terms, IsFirst, AreNonzero, ratio_lcm, factor_for, whole_by, are_small, is_fitting, IsFactor}
use Rattle.np_scale.proofs.Multiples.{lcm_pos, lcm_of_pos}
use Rattle.np_scale.proofs.Factors.{HasSign, has_sign, ratio_to, ratio_dens, multiple_of, cleared, factor_times, size_cleared, dens_above, ratios_divide, first_cleared}
use Rattle.np_scale.proofs.Fitting.{times_fits_is}
use Rattle.np_scale.proofs.Scaled.{stays_past, none_above, below_is}

-- ---- the sizes of whole coefficients

module _ (a : Fraction) (more : List Fraction) (some : is_zero a ≡ false) where
  -- the multiple of the ratios' denominators
  abbrev m : ℕ
  m = multiple_of a more

  above : 0 < m
  above = lcm_of_pos (ratio_dens a (a ∷ more)) (dens_above a (a ∷ more))

  h : HasSign a
  h = has_sign a

  whole_is : (b : Fraction) → (ratio_to a b).den ∣ m → whole_times (factor_of (a ∷ more)) b ≡ h.sign *ℤ cleared m (ratio_to a b)
  whole_is b d = ap (λ (x : Fraction). x.num) (factor_times a more h some b d) ∙ whole_num (h.sign *ℤ cleared m (ratio_to a b))

  pub size_is : (b : Fraction) → (ratio_to a b).den ∣ m → unsigned_abs (whole_times (factor_of (a ∷ more)) b) ≡ unsigned_abs (ratio_to a b).num * (m / (ratio_to a b).den)
  size_is b d = ap unsigned_abs (whole_is b d) ∙ size_cleared h.sign m (ratio_to a b) h.one

  -- the size of a whole coefficient is at least that of the ratio's numerator
  pub size_at_least : (b : Fraction) → (ratio_to a b).den ∣ m → unsigned_abs (ratio_to a b).num ≤ unsigned_abs (whole_times (factor_of (a ∷ more)) b)
  size_at_least b d =
      let one : 1 ≤ m / (ratio_to a b).den = le-div 1 m (ratio_to a b).den (den_of (ratio_to a b)) (let le : (ratio_to a b).den ≤ m = le_of_dvd above d in omega arith) in
      omega (arith, size_is b d, mul-le-mul_left (unsigned_abs (ratio_to a b).num) one)

  -- the first one's is the multiple
  pub first_size : unsigned_abs (whole_times (factor_of (a ∷ more)) a) ≡ m
  first_size = size_is a (ratios_divide a (a ∷ more)).0 ∙ first_cleared m (ratio_to a a) (times_reciprocal a some)

  plain_cleared : (q : Fraction) → q ≡ whole (pos 1) → cleared m q ≡ pos m
  plain_cleared q e = ap (λ (x : Fraction). x.num *ℤ pos (m / x.den)) e ∙ ap (λ z. z *ℤ pos (m / (whole (pos 1)).den)) (whole_num (pos 1)) ∙ ap (λ d. pos 1 *ℤ pos (m / d)) (whole_den (pos 1)) ∙ alone m
    where
      alone : (n : ℕ) → pos 1 *ℤ pos (n / 1) ≡ pos n
      alone n = omega (arith, ints)

  -- the first whole coefficient
  pub first_whole : times (factor_of (a ∷ more)) a ≡ whole (sign_of a.num *ℤ pos m)
  first_whole =
      factor_times a more h some a (ratios_divide a (a ∷ more)).0
      ∙ ap (λ z. whole (h.sign *ℤ z)) (plain_cleared (ratio_to a a) (times_reciprocal a some))
      ∙ ap (λ z. whole (z *ℤ pos m)) h.is

  -- so over the first coefficient it is the factor
  pub factor_over : times (whole (sign_of a.num *ℤ pos m)) (reciprocal a) ≡ factor_of (a ∷ more)
  factor_over = one_factor (factor_of (a ∷ more)) a (whole (sign_of a.num *ℤ pos m)) some (sym first_whole)

-- ---- past the limit

past_size : (z : ℤ) (n : ℕ) → n ≤ unsigned_abs z → COEFFICIENT_SIZE ≤ n → is_below COEFFICIENT_SIZE z ≡ false
past_size z n h k = le-ltb (unsigned_abs z) COEFFICIENT_SIZE (omega arith)

-- one whole coefficient that is past its limit
pub one_past : (factor : Fraction) (cs : List (ℕ × Fraction)) (i : ℕ) (d : ℕ × Fraction) → i < length cs → is_below COEFFICIENT_SIZE (whole_times factor (get_or cs i d).1) ≡ false
    → are_small (whole_by factor cs) ≡ false
one_past factor cs i d within e =
    list_all_at (λ w. is_below COEFFICIENT_SIZE w.1) (whole_by factor cs) i (d.0, whole_times factor d.1)
    (subst (λ (n : ℕ). i < n) (sym (length-map cs (λ c. (c.0, whole_times factor c.1)))) within)
    (ap (λ (w : ℕ × ℤ). is_below COEFFICIENT_SIZE w.1) (get_or-map (λ c. (c.0, whole_times factor c.1)) cs i d (d.0, whole_times factor d.1) within) ∙ e)

-- the coefficients alone
abbrev alone : List (ℕ × Fraction) → List Fraction
alone cs = map (λ c. c.1) cs

pub dens_of : (a : Fraction) (cs : List (ℕ × Fraction)) → ratio_dens a (alone cs) ≡ map (λ c. (times c.1 (reciprocal a)).den) cs
dens_of a [] = refl
dens_of a (c ∷ cs) = ap (λ ns. (times c.1 (reciprocal a)).den ∷ ns) (dens_of a cs)

-- the multiple of the denominators is past the limit
first_past : (c : ℕ × Fraction) (cs : List (ℕ × Fraction)) → is_zero c.1 ≡ false → COEFFICIENT_SIZE ≤ ratio_lcm c.1 (c ∷ cs)
    → are_small (whole_by (factor_for (c ∷ cs)) (c ∷ cs)) ≡ false
first_past c cs some past =
    let is : unsigned_abs (whole_times (factor_of (c.1 ∷ alone cs)) c.1) ≡ ratio_lcm c.1 (c ∷ cs) = first_size c.1 (alone cs) some ∙ ap lcm_of (dens_of c.1 (c ∷ cs)) in
    one_past (factor_for (c ∷ cs)) (c ∷ cs) 0 c (omega arith)
    (past_size (whole_times (factor_of (c.1 ∷ alone cs)) c.1) (ratio_lcm c.1 (c ∷ cs)) (omega (arith, is)) past)

pub multiple_past : (first : Fraction) (cs : List (ℕ × Fraction)) → IsFirst first cs → AreNonzero cs → COEFFICIENT_SIZE ≤ ratio_lcm first cs
    → are_small (whole_by (factor_for cs) cs) ≡ false
multiple_past first [] is some past = absurd is
multiple_past first (c ∷ cs) is some past =
    first_past c cs (All-head (λ c. is_zero c.1 ≡ false) c cs some) (subst (λ (a : Fraction). COEFFICIENT_SIZE ≤ ratio_lcm a (c ∷ cs)) (sym is) past)

-- the ratio of the first coefficient to itself changes nothing
pub after_first : (first : Fraction) (cs : List (ℕ × Fraction)) → IsFirst first cs → AreNonzero cs
    → fold lcm 1 (map (λ c. (times c.1 (reciprocal first)).den) (drop 1 cs)) ≡ ratio_lcm first cs
after_first first [] is some = absurd is
after_first first (c ∷ cs) is some =
    let own : (times c.1 (reciprocal first)).den ≡ 1 =
    ap (λ a. (times c.1 (reciprocal a)).den) (sym is) ∙ ap (λ (x : Fraction). x.den) (times_reciprocal c.1 (All-head (λ c. is_zero c.1 ≡ false) c cs some)) ∙ whole_den (pos 1) in
    let same : lcm 1 1 ≡ 1 = ap (λ g. 1 / g * 1) (gcd-one 1) in
    sym (ap (λ n. fold lcm (lcm 1 n) (map (λ c. (times c.1 (reciprocal first)).den) cs)) own ∙ ap (λ n. fold lcm n (map (λ c. (times c.1 (reciprocal first)).den) cs)) same)

-- a ratio that isn't answered
unfit : (z : ℤ) (n : ℕ) → (fits z && nat_lt n (2 ^ 127)) ≡ false → (2 ^ 127 ≤ unsigned_abs z) ⊎ (2 ^ 127 ≤ n)
unfit z n e =
    ⊎_elim (λ f. inl (ltb-false (unsigned_abs z) (2 ^ 127) f)) (λ f. inr (ltb-false n (2 ^ 127) f)) (and_cases (fits z) (nat_lt n (2 ^ 127)) e)

divides_at : (c : ℕ × Fraction) (cs : List (ℕ × Fraction)) (i : ℕ) (d : ℕ × Fraction) → i < length (c ∷ cs)
    → (ratio_to c.1 (get_or (c ∷ cs) i d).1).den ∣ multiple_of c.1 (alone cs)
divides_at c cs i d within =
    subst (λ (b : Fraction). (ratio_to c.1 b).den ∣ multiple_of c.1 (alone cs)) (get_or-map (λ (x : ℕ × Fraction). x.1) (c ∷ cs) i d d.1 within)
    (All-get_or (λ b. (ratio_to c.1 b).den ∣ multiple_of c.1 (alone cs)) (alone (c ∷ cs)) i d.1
    (subst (λ (n : ℕ). i < n) (sym (length-map (c ∷ cs) (λ (x : ℕ × Fraction). x.1))) within)
    (All-from_recursion (λ b. (ratio_to c.1 b).den ∣ multiple_of c.1 (alone cs)) (alone (c ∷ cs)) (ratios_divide c.1 (alone (c ∷ cs)))))

ratio_unfit : (c : ℕ × Fraction) (cs : List (ℕ × Fraction)) → is_zero c.1 ≡ false → (i : ℕ) (d : ℕ × Fraction) → i < length (c ∷ cs)
    → times_fits (get_or (c ∷ cs) i d).1 (reciprocal c.1) ≡ false → are_small (whole_by (factor_for (c ∷ cs)) (c ∷ cs)) ≡ false
ratio_unfit c cs some i d within e =
    let b : Fraction = (get_or (c ∷ cs) i d).1 in
    let divides : (ratio_to c.1 b).den ∣ multiple_of c.1 (alone cs) = divides_at c cs i d within in
    let large : (2 ^ 127 ≤ unsigned_abs (ratio_to c.1 b).num) ⊎ (2 ^ 127 ≤ (ratio_to c.1 b).den) = unfit (ratio_to c.1 b).num (ratio_to c.1 b).den (sym (times_fits_is b (reciprocal c.1)) ∙ e) in
    ⊎_elim
    (λ h. one_past (factor_for (c ∷ cs)) (c ∷ cs) i d within
    (past_size (whole_times (factor_of (c.1 ∷ alone cs)) b) (2 ^ 127) (omega (arith, size_at_least c.1 (alone cs) some b divides)) (omega arith)))
    (λ h. first_past c cs some
    (let is : multiple_of c.1 (alone cs) ≡ ratio_lcm c.1 (c ∷ cs) = ap lcm_of (dens_of c.1 (c ∷ cs)) in
    omega (arith, le_of_dvd (above c.1 (alone cs) some) divides, is)))
    large

pub ratio_past : (first : Fraction) (cs : List (ℕ × Fraction)) → IsFirst first cs → AreNonzero cs → (i : ℕ) (d : ℕ × Fraction) → i < length cs
    → times_fits (get_or cs i d).1 (reciprocal first) ≡ false → are_small (whole_by (factor_for cs) cs) ≡ false
ratio_past first [] is some i d within e = absurd is
ratio_past first (c ∷ cs) is some i d within e =
    ratio_unfit c cs (All-head (λ c. is_zero c.1 ≡ false) c cs some) i d within (ap (λ a. times_fits (get_or (c ∷ cs) i d).1 (reciprocal a)) is ∙ e)

-- ---- the factor

-- the multiple with the sign of the first coefficient, over it
pub factor_is : (first : Fraction) (cs : List (ℕ × Fraction)) → IsFirst first cs → AreNonzero cs → times (whole (sign_of first.num *ℤ pos (ratio_lcm first cs))) (reciprocal first) ≡ factor_for cs
factor_is first [] is some = absurd is
factor_is first (c ∷ cs) is some =
    subst (λ (a : Fraction). times (whole (sign_of a.num *ℤ pos (ratio_lcm a (c ∷ cs)))) (reciprocal a) ≡ factor_for (c ∷ cs)) is
    (ap (λ n. times (whole (sign_of c.1.num *ℤ pos n)) (reciprocal c.1)) (sym (ap lcm_of (dens_of c.1 (c ∷ cs))))
    ∙ factor_over c.1 (alone cs) (All-head (λ c. is_zero c.1 ≡ false) c cs some))

-- whether it is answered
pub factor_answered : (first : Fraction) (cs : List (ℕ × Fraction)) → IsFirst first cs → AreNonzero cs
    → factor_fits (factor_for cs) cs ≡ times_fits (whole (sign_of first.num *ℤ pos (ratio_lcm first cs))) (reciprocal first)
factor_answered first [] is some = absurd is
factor_answered first (c ∷ cs) is some =
    subst (λ (a : Fraction). factor_fits (factor_for (c ∷ cs)) (c ∷ cs) ≡ times_fits (whole (sign_of a.num *ℤ pos (ratio_lcm a (c ∷ cs)))) (reciprocal a)) is
    (ap (λ x. times_fits x (reciprocal c.1))
    (first_whole c.1 (alone cs) (All-head (λ c. is_zero c.1 ≡ false) c cs some)
    ∙ ap (λ n. whole (sign_of c.1.num *ℤ pos n)) (ap lcm_of (dens_of c.1 (c ∷ cs)))))

-- ---- one whole coefficient

unfit_num : (x : Fraction) → x.den ≡ 1 → (fits x.num && nat_lt x.den (2 ^ 127)) ≡ false → 2 ^ 127 ≤ unsigned_abs x.num
unfit_num x one e = ltb-false (unsigned_abs x.num) (2 ^ 127) (left (fits x.num) (sym (ap (λ d. fits x.num && nat_lt d (2 ^ 127)) one) ∙ e))
  where
    left : (b : Bool) → (b && true) ≡ false → b ≡ false
    left true e = e
    left false e = refl

-- a whole product that isn't answered is past the limit
pub coefficient_past : (f a : Fraction) → (times f a).den ≡ 1 → false ≡ times_fits f a → None ≡ small COEFFICIENT_SIZE (times f a).num
coefficient_past f a one e =
    let past : COEFFICIENT_SIZE ≤ unsigned_abs (times f a).num = omega (arith, unfit_num (times f a) one (sym (times_fits_is f a) ∙ sym e)) in
    rw (le-ltb (unsigned_abs (times f a).num) COEFFICIENT_SIZE past) refl

-- ---- the negated number

pub over_negated : (x : Fraction) → over (neg_ℤ x.num) x.den ≡ negated x
over_negated x =
    over_equal (neg_ℤ x.num) x.den ((pos 0 *ℤ pos x.den) +ℤ (neg_ℤ x.num *ℤ pos 1)) (1 * x.den) (den_of x) (mul-pos (lit< tt) (den_of x))
    (ring (mul (neg (var x.num)) (nat (1 * x.den))) (mul (add (mul (nat 0) (nat x.den)) (mul (neg (var x.num)) (nat 1))) (nat x.den)) (omega arith))
    ∙ sym (amount_is (rest (int (pos 0)) (frac x)))

pub negated_from : (x y : Fraction) (n : ℤ) (d : ℤ) → Some x ≡ checked_quotient n d → n ≡ neg_ℤ y.num → d ≡ pos y.den → x ≡ negated y
negated_from x y n d e f g = by (fits n && (fits d && not (int_eq d (pos 0)))) e ∙ ap (λ m. ratio m d) f ∙ ap (ratio (neg_ℤ y.num)) g ∙ over_negated y
  where
    by : (b : Bool) → Some x ≡ (if b then Some (ratio n d) else None) → x ≡ ratio n d
    by true e = cc
    by false e = cc

-- ---- the loop over ratios

first_some : (first : Fraction) (cs : List (ℕ × Fraction)) → IsFirst first cs → AreNonzero cs → is_zero first ≡ false
first_some first [] is some = absurd is
first_some first (c ∷ cs) is some = ap is_zero (sym is) ∙ All-head (λ c. is_zero c.1 ≡ false) c cs some

unanswered : (z t : Bool) → z ≡ false → false ≡ (not z && t) → t ≡ false
unanswered true t e f = absurd (false≢true (sym e))
unanswered false t e f = sym f

pub ratio_err : (first : Fraction) (cs : List (ℕ × Fraction)) → IsFirst first cs → AreNonzero cs → (i : ℕ) (x : ℕ × Fraction) → i < length cs → x ≡ get_or cs i x
    → false ≡ (not (is_zero first) && times_fits x.1 (reciprocal first)) → are_small (whole_by (factor_for cs) cs) ≡ false
ratio_err first cs is some i x within at e =
    ratio_past first cs is some i x within
    (ap (λ (y : ℕ × Fraction). times_fits y.1 (reciprocal first)) (sym at) ∙ unanswered (is_zero first) (times_fits x.1 (reciprocal first)) (first_some first cs is some) e)

abbrev ratio_den : Fraction → ℕ × Fraction → ℕ
ratio_den first c = (times c.1 (reciprocal first)).den

dens_positive : (first : Fraction) (cs : List (ℕ × Fraction)) → AllByRecursion (λ n. 0 < n) (map (ratio_den first) cs)
dens_positive first [] = tt
dens_positive first (c ∷ cs) = (den_of (times c.1 (reciprocal first)), dens_positive first cs)

drop_dens : (first : Fraction) (cs : List (ℕ × Fraction)) (i : ℕ) (x : ℕ × Fraction) → i < length cs → x ≡ get_or cs i x
    → map (ratio_den first) (drop i cs) ≡ ratio_den first x ∷ map (ratio_den first) (drop (i + 1) cs)
drop_dens first cs i x within at = ap (map (ratio_den first)) (drop_more cs i x within) ∙ ap (λ y. ratio_den first y ∷ map (ratio_den first) (drop (i + 1) cs)) (sym at)

pub lcm_err : (first : Fraction) (cs : List (ℕ × Fraction)) → IsFirst first cs → AreNonzero cs → (i : ℕ) (x : ℕ × Fraction) (m n : ℕ) → i < length cs → x ≡ get_or cs i x
    → fold lcm m (map (ratio_den first) (drop i cs)) ≡ ratio_lcm first cs → 0 < m → n ≡ ratio_den first x → None ≡ below COEFFICIENT_SIZE (lcm m n)
    → are_small (whole_by (factor_for cs) cs) ≡ false
lcm_err first cs is some i x m n within at whole positive den e =
    let rest : List ℕ = map (ratio_den first) (drop (i + 1) cs) in
    let all : fold lcm (lcm m n) rest ≡ ratio_lcm first cs = ap (λ k. fold lcm (lcm m k) rest) den ∙ sym (ap (fold lcm m) (drop_dens first cs i x within at)) ∙ whole in
    let pos_n : 0 < n = subst (λ (k : ℕ). 0 < k) (sym den) (den_of (times x.1 (reciprocal first))) in
    let past : below COEFFICIENT_SIZE (fold lcm (lcm m n) rest) ≡ None = stays_past COEFFICIENT_SIZE (lcm m n) rest (lcm_pos m n positive pos_n) (dens_positive first (drop (i + 1) cs)) (sym e) in
    multiple_past first cs is some (omega (arith, none_above COEFFICIENT_SIZE (fold lcm (lcm m n) rest) past, all))

pub lcm_more : (first : Fraction) (cs : List (ℕ × Fraction)) (i : ℕ) (x : ℕ × Fraction) (m n next : ℕ) → i < length cs → x ≡ get_or cs i x
    → fold lcm m (map (ratio_den first) (drop i cs)) ≡ ratio_lcm first cs → n ≡ ratio_den first x → Some next ≡ below COEFFICIENT_SIZE (lcm m n)
    → fold lcm next (map (ratio_den first) (drop (i + 1) cs)) ≡ ratio_lcm first cs
lcm_more first cs i x m n next within at whole den e =
    ap (λ k. fold lcm k (map (ratio_den first) (drop (i + 1) cs))) ((below_is COEFFICIENT_SIZE (lcm m n) next e).0 ∙ ap (lcm m) den)
    ∙ sym (ap (fold lcm m) (drop_dens first cs i x within at)) ∙ whole

pub next_positive : (m n next : ℕ) → 0 < m → 0 < n → Some next ≡ below COEFFICIENT_SIZE (lcm m n) → 0 < next
next_positive m n next hm hn e = subst (λ (k : ℕ). 0 < k) (sym (below_is COEFFICIENT_SIZE (lcm m n) next e).0) (lcm_pos m n hm hn)

pub next_small : (m n next : ℕ) → Some next ≡ below COEFFICIENT_SIZE (lcm m n) → next < COEFFICIENT_SIZE
next_small m n next e = (below_is COEFFICIENT_SIZE (lcm m n) next e).1

-- ---- the loop over whole coefficients

pub term_past : (factor : Fraction) (cs : List (ℕ × Fraction)) (i : ℕ) (x : ℕ × Fraction) → i < length cs → x ≡ get_or cs i x → None ≡ small COEFFICIENT_SIZE (whole_times factor x.1)
    → None ≡ small_terms factor cs
term_past factor cs i x within at e =
    let fails : is_below COEFFICIENT_SIZE (whole_times factor x.1) ≡ false = not_small (is_below COEFFICIENT_SIZE (whole_times factor x.1)) e in
    rw (one_past factor cs i x within (ap (λ (y : ℕ × Fraction). is_below COEFFICIENT_SIZE (whole_times factor y.1)) (sym at) ∙ fails)) refl
  where
    not_small : (b : Bool) → None ≡ (if b then Some (whole_times factor x.1) else None) → b ≡ false
    not_small true e = cc
    not_small false e = refl

-- ---- the factor

pub factor_found : (first : Fraction) (cs : List (ℕ × Fraction)) (w f : Fraction) (m : ℕ) → IsFirst first cs → AreNonzero cs → m ≡ ratio_lcm first cs → w ≡ whole (sign_of first.num *ℤ pos m)
    → f ≡ times w (reciprocal first) → true ≡ (not (is_zero first) && times_fits w (reciprocal first)) → IsFactor cs f
factor_found first cs w f m is some em ew ef answered = record { is = same; fits = ap (λ x. factor_fits x cs) same ∙ fitting }
  where
    whole_is : w ≡ whole (sign_of first.num *ℤ pos (ratio_lcm first cs))
    whole_is = ew ∙ ap (λ n. whole (sign_of first.num *ℤ pos n)) em

    same : f ≡ factor_for cs
    same = ef ∙ ap (λ x. times x (reciprocal first)) whole_is ∙ factor_is first cs is some

    right : (z t : Bool) → true ≡ (not z && t) → t ≡ true
    right true t e = absurd (false≢true (sym e))
    right false t e = sym e

    fitting : factor_fits (factor_for cs) cs ≡ true
    fitting = factor_answered first cs is some ∙ ap (λ x. times_fits x (reciprocal first)) (sym whole_is) ∙ right (is_zero first) (times_fits w (reciprocal first)) answered

pub factor_none : (first : Fraction) (cs : List (ℕ × Fraction)) (w : Fraction) (m : ℕ) → IsFirst first cs → AreNonzero cs → m ≡ ratio_lcm first cs → w ≡ whole (sign_of first.num *ℤ pos m)
    → false ≡ (not (is_zero first) && times_fits w (reciprocal first)) → is_fitting cs ≡ false
factor_none first cs w m is some em ew e =
    and_left (factor_fits (factor_for cs) cs) (are_small (whole_by (factor_for cs) cs))
    (factor_answered first cs is some
    ∙ ap (λ x. times_fits x (reciprocal first)) (sym (ew ∙ ap (λ n. whole (sign_of first.num *ℤ pos n)) em))
    ∙ unanswered (is_zero first) (times_fits w (reciprocal first)) (first_some first cs is some) e)

pub factor_some_case : (first : Fraction) (cs : List (ℕ × Fraction)) (w : Fraction) (m : ℕ) (r : Option Fraction) → IsFirst first cs → AreNonzero cs → m ≡ ratio_lcm first cs
    → w ≡ whole (sign_of first.num *ℤ pos m) → IfSome r (λ x. x ≡ times w (reciprocal first)) → is_some r ≡ (not (is_zero first) && times_fits w (reciprocal first)) → IfSome r (IsFactor cs)
factor_some_case first cs w m None is some em ew value fits = tt
factor_some_case first cs w m (Some f) is some em ew value fits = factor_found first cs w f m is some em ew value fits

pub factor_none_case : (first : Fraction) (cs : List (ℕ × Fraction)) (w : Fraction) (m : ℕ) (r : Option Fraction) → IsFirst first cs → AreNonzero cs → m ≡ ratio_lcm first cs
    → w ≡ whole (sign_of first.num *ℤ pos m) → is_some r ≡ (not (is_zero first) && times_fits w (reciprocal first)) → r ≡ None → is_fitting cs ≡ false
factor_none_case first cs w m r is some em ew fits none = factor_none first cs w m is some em ew (ap is_some (sym none) ∙ fits)
