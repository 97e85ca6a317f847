-- What changes leave: how many values, and how large.
use Rattle.std.proofs.Common.{◌≡◌, ℕ, ◌+◌, ◌*◌, ◌^◌, ◌≤◌, ◌<◌, ℤ, pos, negsuc, ◌+ℤ◌, unsigned_abs, List, [], ◌∷◌, ◌++◌, length, get_or, set, take, All, refl, sym, ap, ◌∙◌, subst, arith}
use Rattle.std.proofs.lemmas.Int.{to_z-of_z}
use mir.Syntax.{w128}
use mir.Val.{SFits, to_z, of_z}
use Rattle.std.proofs.lemmas.List.{length-set, length-take-le, take_more}
use Rattle.std.proofs.lemmas.List.Elements.{All-head, All-tail, All-set, All-weaker, All-take}
use Rattle.np_flat.specs.Flats.{AreBelow, AreAmounts}
use Rattle.np_flat.specs.States.{value_at, changed, all_changed}
use Rattle.np_flat.proofs.Forms.{abs_sum, value_small, amounts_small, amounts_within}

-- one more change
pub all_changed-push : (changes : List (ℕ × ℤ)) (change : ℕ × ℤ) (values : List ℤ) → all_changed (changes ++ change ∷ []) values ≡ changed (all_changed changes values) change
all_changed-push [] change values = refl
all_changed-push (c ∷ cs) change values = all_changed-push cs change (changed values c)

pub length-all_changed : (changes : List (ℕ × ℤ)) (values : List ℤ) → length (all_changed changes values) ≡ length values
length-all_changed [] values = refl
length-all_changed (c ∷ cs) values = length-all_changed cs (changed values c) ∙ length-set values c.0 _

-- values that are small are so at a larger bound
pub small_weaker : (size more : ℕ) (values : List ℤ) → size ≤ more → All (λ v. unsigned_abs v ≤ size) values → All (λ v. unsigned_abs v ≤ more) values
small_weaker size more values le small = All-weaker (λ (v : ℤ). unsigned_abs v ≤ size) (λ (v : ℤ). unsigned_abs v ≤ more) (λ v h. omega arith) values small

pub small_changed : (size most : ℕ) (values : List ℤ) (change : ℕ × ℤ) → unsigned_abs change.1 ≤ most → All (λ v. unsigned_abs v ≤ size) values → All (λ v. unsigned_abs v ≤ size + most) (changed values change)
small_changed size most values change by small =
    let here : unsigned_abs (value_at values change.0) ≤ size = value_small size values change.0 small in
    let sum : unsigned_abs (value_at values change.0 +ℤ change.1) ≤ unsigned_abs (value_at values change.0) + unsigned_abs change.1 = abs_sum (value_at values change.0) change.1 in
    All-set (λ (v : ℤ). unsigned_abs v ≤ size + most) values change.0 (value_at values change.0 +ℤ change.1) (omega arith) (small_weaker size (size + most) values (omega arith) small)

-- each change adds at most so much
pub small_all_changed : (changes : List (ℕ × ℤ)) (size most : ℕ) (values : List ℤ) → All (λ c. unsigned_abs c.1 ≤ most) changes → All (λ v. unsigned_abs v ≤ size) values → All (λ v. unsigned_abs v ≤ size + length changes * most) (all_changed changes values)
small_all_changed [] size most values of small = small_weaker size (size + 0 * most) values (omega arith) small
small_all_changed (c ∷ cs) size most values of small =
    let by : unsigned_abs c.1 ≤ most = All-head (λ (e : ℕ × ℤ). unsigned_abs e.1 ≤ most) c cs of in
    small_weaker (size + most + length cs * most) (size + length (c ∷ cs) * most) (all_changed cs (changed values c)) (omega arith)
    (small_all_changed cs (size + most) most (changed values c) (All-tail (λ (e : ℕ × ℤ). unsigned_abs e.1 ≤ most) c cs of) (small_changed size most values c by small))

-- a number of fewer than 127 bits fits
pub fits_wide : (z : ℤ) → unsigned_abs z < 2 ^ 127 → SFits w128 z
fits_wide (pos n) h = record { sfits = omega arith }
fits_wide (negsuc n) h = record { sfits = omega arith }

-- at the change of this index, after the changes before it
module _ (values : List ℤ) (changes : List (ℕ × ℤ)) (i : ℕ) (now : List ℤ) (d : ℕ × ℤ)
    (small : AreBelow (2 ^ 87) values) (all : AreAmounts (length values) (2 ^ 62) changes) (few : length changes < 2 ^ 64) (within : i < length changes)
    (so_far : now ≡ all_changed (take i changes) values) where
  abbrev change : ℕ × ℤ
  change = get_or changes i d

  abbrev value : ℤ
  value = value_at now change.0

  by_small : unsigned_abs change.1 < 2 ^ 62
  by_small = amounts_small (length values) (2 ^ 62) changes all i d within

  each : All (λ c. unsigned_abs c.1 ≤ 2 ^ 62) changes
  each = All-weaker (λ (c : ℕ × ℤ). unsigned_abs c.1 < 2 ^ 62) (λ (c : ℕ × ℤ). unsigned_abs c.1 ≤ 2 ^ 62) (λ c h. omega arith) changes (amounts_small (length values) (2 ^ 62) changes all)

  start_small : All (λ v. unsigned_abs v ≤ 2 ^ 87) values
  start_small = All-weaker (λ (v : ℤ). unsigned_abs v < 2 ^ 87) (λ (v : ℤ). unsigned_abs v ≤ 2 ^ 87) (λ v h. omega arith) values small

  long : length now ≡ length values
  long = ap length so_far ∙ length-all_changed (take i changes) values

  -- its number is one of a value
  pub number_within : change.0 < length now
  number_within = subst (λ n. change.0 < n) (sym long) (amounts_within (length values) (2 ^ 62) changes all i d within)

  now_small : All (λ v. unsigned_abs v ≤ 2 ^ 87 + i * 2 ^ 62) now
  now_small =
      let front = small_all_changed (take i changes) (2 ^ 87) (2 ^ 62) values (All-take (λ (c : ℕ × ℤ). unsigned_abs c.1 ≤ 2 ^ 62) i changes each) start_small in
      let as_many : length (take i changes) ≡ i = length-take-le i changes (omega arith) in
      subst (λ vs. All (λ v. unsigned_abs v ≤ 2 ^ 87 + i * 2 ^ 62) vs) (sym so_far) (subst (λ n. All (λ v. unsigned_abs v ≤ 2 ^ 87 + n * 2 ^ 62) (all_changed (take i changes) values)) as_many front)

  value_at_small : unsigned_abs value ≤ 2 ^ 87 + i * 2 ^ 62
  value_at_small = value_small (2 ^ 87 + i * 2 ^ 62) now change.0 now_small

  fits_value : SFits w128 value
  fits_value = fits_wide value (omega (arith, value_at_small))

  fits_by : SFits w128 change.1
  fits_by = fits_wide change.1 (omega (arith, by_small))

  fits_sum : SFits w128 (value +ℤ change.1)
  fits_sum = fits_wide (value +ℤ change.1) (omega (arith, value_at_small, by_small, abs_sum value change.1))

  -- the sum fits
  pub sum_fits : SFits w128 (to_z w128 (of_z w128 value) +ℤ to_z w128 (of_z w128 change.1))
  sum_fits = subst (λ z. SFits w128 (z +ℤ to_z w128 (of_z w128 change.1))) (sym (to_z-of_z w128 value fits_value)) (subst (λ z. SFits w128 (value +ℤ z)) (sym (to_z-of_z w128 change.1 fits_by)) fits_sum)

  sum_is : to_z w128 (of_z w128 (to_z w128 (of_z w128 value) +ℤ to_z w128 (of_z w128 change.1))) ≡ value +ℤ change.1
  sum_is = to_z-of_z w128 (to_z w128 (of_z w128 value) +ℤ to_z w128 (of_z w128 change.1)) sum_fits ∙ ap (λ z. z +ℤ to_z w128 (of_z w128 change.1)) (to_z-of_z w128 value fits_value) ∙ ap (λ z. value +ℤ z) (to_z-of_z w128 change.1 fits_by)

  -- its write is the change
  pub next_change : set now change.0 (to_z w128 (of_z w128 (to_z w128 (of_z w128 value) +ℤ to_z w128 (of_z w128 change.1)))) ≡ all_changed (take (i + 1) changes) values
  next_change =
      ap (set now change.0) sum_is
      ∙ ap (λ vs. changed vs change) so_far
      ∙ sym (all_changed-push (take i changes) change values)
      ∙ ap (λ cs. all_changed cs values) (sym (take_more changes i d within))
