-- Fractions made whole. This project's own.
use Rattle.std.specs.Prelude.{ℕ, ◌*◌, ◌/◌, ℤ, pos, neg_ℤ, unsigned_abs, List, [], ◌∷◌, ◌++◌, map, filter, fold}
use Rattle.std.specs.List.{flat_map, list_any}
use Rattle.std.specs.Int.{int_div_euclid}
use Rattle.np_frac.specs.Gcd.{gcd}
use Rattle.np_frac.specs.Fractions.{Fraction, over, whole, times}
use Rattle.np_frac.specs.Checked.{reciprocal}
use Rattle.np_model.specs.declared.task.Term.{Term}
use Rattle.np_model.specs.Ground.{same_term}
use Rattle.np_bind.specs.declared.bound.BoundParts.{BoundParts}
use Rattle.np_bind.specs.Grounding.{number_on}
use Rattle.np_scale.specs.Tables.{values_of}

-- the least common multiple
abbrev pub lcm : ℕ → ℕ → ℕ
lcm m n = m / gcd m n * n

-- the least common multiple of several numbers; 1 where there are none
abbrev pub lcm_of : List ℕ → ℕ
lcm_of ns = fold lcm 1 ns

-- ---- the unit

-- the start values of terms, and the net changes of kept steps on them
abbrev pub all_numbers : BoundParts → List Term → List Fraction
all_numbers bound terms =
    map (number_on bound.values) terms
    ++ flat_map (λ b. map (λ c. c.1) (filter (λ c. list_any (same_term c.0) terms) b.changes)) bound.steps

-- the unit: the least common multiple of the denominators of the values' start values and of the net changes on them
abbrev pub unit_of : BoundParts → ℕ
unit_of bound = lcm_of (map (λ x. x.den) (all_numbers bound (values_of bound)))

-- a scaled number: the unit times the number, which is whole where the unit is a multiple of its denominator
abbrev pub scaled_number : ℕ → Fraction → ℤ
scaled_number unit x = (times (whole (pos unit)) x).num

-- ---- coefficients

-- the size of a fraction
abbrev pub absolute : Fraction → Fraction
absolute x = over (pos (unsigned_abs x.num)) x.den

-- the factor by which coefficients become whole numbers without a common divisor, of the same proportions and signs: the least common
-- multiple of the denominators of their ratios to the first one, over the first one's size
abbrev pub factor_of : List Fraction → Fraction
factor_of [] = whole (pos 1)
factor_of (a ∷ more) =
    times (whole (pos (lcm_of (map (λ b. (times b (reciprocal a)).den) (a ∷ more))))) (reciprocal (absolute a))

-- such a whole number
abbrev pub whole_times : Fraction → Fraction → ℤ
whole_times factor a = (times factor a).num

-- ---- rounding

-- the greatest whole number that is at most it
abbrev pub rounded_down : Fraction → ℤ
rounded_down e = int_div_euclid e.num (pos e.den)

-- the least whole number that is at least it
abbrev pub rounded_up : Fraction → ℤ
rounded_up e = neg_ℤ (int_div_euclid (neg_ℤ e.num) (pos e.den))
