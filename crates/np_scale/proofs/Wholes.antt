-- Scaled numbers: the unit is a multiple of each denominator, so they are whole.
use Rattle.std.proofs.Common.{◌≡◌, ◌≢◌, ℕ, ◌/◌, ◌<◌, Bool, true, false, ℤ, pos, ◌*ℤ◌, refl, sym, ap, subst, List, [], ◌∷◌, ◌++◌, map, Some}
use Rattle.std.specs.Prelude.{filter, if◌then◌else◌}
use Rattle.std.specs.Int.{◌∣◌}
use Rattle.std.specs.Option.{option_map_or}
use Rattle.std.specs.List.{flat_map, list_any, AllByRecursion}
use Rattle.std.proofs.lemmas.Bool.{both_ways}
use native.Mathlib.Nat.{one-dvd}
use Rattle.np_frac.specs.Fractions.{Fraction, whole, times}
use Rattle.np_frac.specs.Checked.{is_zero}
use Rattle.np_frac.specs.Laws.{den_of}
use Rattle.np_frac.specs.Field.{whole_num, whole_den}
use Rattle.np_frac.specs.Quotients.{made_whole}
use Rattle.np_model.specs.declared.task.Term.{Term}
use Rattle.np_model.specs.Ground.{same_term, same_term-Decides}
use Rattle.np_model.specs.States.{value_among}
use Rattle.np_linear.specs.Linears.{zero}
use Rattle.np_bind.specs.declared.bound.BoundStep.{BoundStep}
use Rattle.np_bind.specs.declared.bound.BoundParts.{BoundParts}
use Rattle.np_bind.specs.Grounding.{number_on}
use Rattle.np_scale.specs.Tables.{values_of}
use Rattle.np_scale.specs.Wholes.{lcm_of, all_numbers, unit_of, scaled_number}
use Rattle.np_scale.proofs.Every.{each_weaker, each_unmap, each_front, each_back, each_flat, each_all}
use Rattle.np_scale.proofs.Multiples.{each_divides, lcm_of_pos}
use Rattle.np_scale.proofs.Positive.{above_some, whole_above, times_some, some_num}

-- a fraction that is a whole number is its numerator
pub whole_of : (x : Fraction) (n : ℤ) → whole n ≡ x → whole x.num ≡ x
whole_of x n e = subst (λ (y : Fraction). whole y.num ≡ y) e (ap whole (whole_num n))

-- a scaled number is the unit times the number
pub scaled_whole : (unit : ℕ) (x : Fraction) → x.den ∣ unit → whole (scaled_number unit x) ≡ times (whole (pos unit)) x
scaled_whole unit x h = whole_of (times (whole (pos unit)) x) (x.num *ℤ pos (unit / x.den)) (made_whole x unit h)

-- and isn't 0 where the number isn't
pub scaled_some : (unit : ℕ) (x : Fraction) → 0 < unit → is_zero x ≡ false → scaled_number unit x ≢ pos 0
scaled_some unit x h some =
    some_num (times (whole (pos unit)) x) (times_some (whole (pos unit)) x (above_some (whole (pos unit)) (whole_above unit h)) some)

-- ---- the unit of a bound task

dens_divide : (xs : List Fraction) → AllByRecursion (λ x. x.den ∣ lcm_of (map (λ x. x.den) xs)) xs
dens_divide xs = each_unmap (λ n. n ∣ lcm_of (map (λ x. x.den) xs)) (λ x. x.den) xs (each_divides (map (λ x. x.den) xs))

dens_above : (xs : List Fraction) → AllByRecursion (λ n. 0 < n) (map (λ x. x.den) xs)
dens_above [] = tt
dens_above (x ∷ xs) = (den_of x, dens_above xs)

pub unit_above : (bound : BoundParts) → 0 < unit_of bound
unit_above bound = lcm_of_pos (map (λ x. x.den) (all_numbers bound (values_of bound))) (dens_above (all_numbers bound (values_of bound)))

abbrev changes_on : List Term → BoundStep → List Fraction
changes_on terms b = map (λ c. c.1) (filter (λ c. list_any (same_term c.0) terms) b.changes)

pub all_divide : (bound : BoundParts) → AllByRecursion (λ x. x.den ∣ unit_of bound) (map (number_on bound.values) (values_of bound) ++ flat_map (changes_on (values_of bound)) bound.steps)
all_divide bound = dens_divide (all_numbers bound (values_of bound))

-- it is a multiple of the denominators of the start values
pub unit_of_starts : (bound : BoundParts) → AllByRecursion (λ t. (number_on bound.values t).den ∣ unit_of bound) (values_of bound)
unit_of_starts bound =
    each_unmap (λ (x : Fraction). x.den ∣ unit_of bound) (number_on bound.values) (values_of bound)
    (each_front (λ (x : Fraction). x.den ∣ unit_of bound) (map (number_on bound.values) (values_of bound)) (flat_map (changes_on (values_of bound)) bound.steps) (all_divide bound))

-- a change on a term of the task
change_divides : (terms : List Term) (unit : ℕ) (cs : List (Term × Fraction)) (t : Term) → list_any (same_term t) terms ≡ true
    → AllByRecursion (λ c. c.1.den ∣ unit) (filter (λ c. list_any (same_term c.0) terms) cs) → (number_on cs t).den ∣ unit
change_divides terms unit [] t there all = subst (λ (n : ℕ). n ∣ unit) (sym (whole_den (pos 0))) (one-dvd unit)
change_divides terms unit (c ∷ cs) t there all =
    by (same_term t c.0) refl (list_any (same_term c.0) terms) refl all (change_divides terms unit cs t there)
  where
    by : (b : Bool) → same_term t c.0 ≡ b → (k : Bool) → list_any (same_term c.0) terms ≡ k
        → AllByRecursion (λ d. d.1.den ∣ unit) (if k then c ∷ filter (λ d. list_any (same_term d.0) terms) cs else filter (λ d. list_any (same_term d.0) terms) cs)
        → (AllByRecursion (λ d. d.1.den ∣ unit) (filter (λ d. list_any (same_term d.0) terms) cs) → (number_on cs t).den ∣ unit)
        → (option_map_or (λ x. x) (if b then Some c.1 else value_among cs t) zero).den ∣ unit
    by true same true kept here rest = here.0
    by true same false dropped here rest = absurd (both_ways (list_any (same_term c.0) terms) dropped (subst (λ u. list_any (same_term u) terms ≡ true) ((same_term-Decides t c.0).0 same) there))
    by false other true kept here rest = rest here.1
    by false other false dropped here rest = rest here

-- and of those of the net changes on values
pub unit_of_changes : (bound : BoundParts) → AllByRecursion (λ b. (t : Term) → list_any (same_term t) (values_of bound) ≡ true → (number_on b.changes t).den ∣ unit_of bound) bound.steps
unit_of_changes bound =
    each_weaker
    (λ b. AllByRecursion (λ (x : Fraction). x.den ∣ unit_of bound) (changes_on (values_of bound) b))
    (λ b. (t : Term) → list_any (same_term t) (values_of bound) ≡ true → (number_on b.changes t).den ∣ unit_of bound)
    (λ b all t there. change_divides (values_of bound) (unit_of bound) b.changes t there
    (each_unmap (λ (x : Fraction). x.den ∣ unit_of bound) (λ c. c.1) (filter (λ c. list_any (same_term c.0) (values_of bound)) b.changes) all))
    bound.steps
    (each_flat (λ (x : Fraction). x.den ∣ unit_of bound) (changes_on (values_of bound)) bound.steps
    (each_back (λ (x : Fraction). x.den ∣ unit_of bound) (map (number_on bound.values) (values_of bound)) (flat_map (changes_on (values_of bound)) bound.steps) (all_divide bound)))

-- ---- so scaled numbers are whole

pub start_whole : (bound : BoundParts) (t : Term) → list_any (same_term t) (values_of bound) ≡ true
    → whole (scaled_number (unit_of bound) (number_on bound.values t)) ≡ times (whole (pos (unit_of bound))) (number_on bound.values t)
start_whole bound t there =
    scaled_whole (unit_of bound) (number_on bound.values t) (each_all same_term same_term-Decides (λ u. (number_on bound.values u).den ∣ unit_of bound) (values_of bound) (unit_of_starts bound) t there)

pub changes_whole : (bound : BoundParts) → AllByRecursion (λ b. (t : Term) → list_any (same_term t) (values_of bound) ≡ true
    → whole (scaled_number (unit_of bound) (number_on b.changes t)) ≡ times (whole (pos (unit_of bound))) (number_on b.changes t)) bound.steps
changes_whole bound =
    each_weaker
    (λ b. (t : Term) → list_any (same_term t) (values_of bound) ≡ true → (number_on b.changes t).den ∣ unit_of bound)
    (λ b. (t : Term) → list_any (same_term t) (values_of bound) ≡ true → whole (scaled_number (unit_of bound) (number_on b.changes t)) ≡ times (whole (pos (unit_of bound))) (number_on b.changes t))
    (λ b divides t there. scaled_whole (unit_of bound) (number_on b.changes t) (divides t there))
    bound.steps (unit_of_changes bound)
