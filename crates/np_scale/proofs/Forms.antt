-- A form is at least 0 exactly where its side of a comparison holds.
use Rattle.std.proofs.Common.{◌≡◌, ℕ, Bool, true, false, ℤ, pos, ◌+ℤ◌, ◌*ℤ◌, ◌<ℤ◌, refl, sym, ◌∙◌, ap, arith, List, [], ◌∷◌, map}
use Rattle.std.specs.Prelude.{int_le, nat_lt, slice_get, if◌then◌else◌}
use Rattle.std.specs.Option.{option_map_or}
use Rattle.std.specs.Ordering.{is_ge, is_gt}
use Rattle.std.specs.List.{AllByRecursion, list_any}
use Rattle.np_frac.specs.Fractions.{Fraction, whole, plus, times, fraction_cmp}
use Rattle.np_frac.specs.Field.{field, frac, product, times-plus, times_comm, times_zero, whole_plus, whole_times, plus_assoc, plus_comm}
use Rattle.np_frac.specs.Order.{cmp_times}
use Rattle.np_model.specs.declared.task.Term.{Term}
use Rattle.np_model.specs.declared.task.Op.{Op}
use Rattle.np_model.specs.declared.task.Op.TheVariants.{Greater, AtLeast}
use Rattle.np_model.specs.Ground.{same_term, same_term-Decides}
use Rattle.np_model.specs.Conditions.{compares}
use Rattle.np_linear.specs.Linears.{zero, terms_value, linear_value}
use Rattle.np_flat.specs.States as flat
use Rattle.np_scale.specs.Tables.{number_of}
use Rattle.np_scale.specs.Wholes.{rounded_down, rounded_up}
use Rattle.np_scale.specs.Wholes as scale
use Rattle.np_scale.specs.Forms.{Inequality, in_place, by_number, coefficients_of, factor_on, constant_from, form_of}
use Rattle.np_scale.proofs.Once.{number_names}
use Rattle.np_scale.proofs.Floors.{down_says, up_says}
use Rattle.np_scale.proofs.Readings.{numbered}

-- ---- sums by number

-- coefficient times value, added up
abbrev pub exact_sum : (ℕ → Fraction) → List (ℕ × Fraction) → Fraction
exact_sum w [] = zero
exact_sum w (c ∷ cs) = plus (times c.1 (w c.0)) (exact_sum w cs)

swapped : (a b c : Fraction) → plus a (plus b c) ≡ plus b (plus a c)
swapped a b c = sym (plus_assoc a b c) ∙ ap (λ x. plus x c) (plus_comm a b) ∙ plus_assoc b a c

sum_in_place : (w : ℕ → Fraction) (x : ℕ × Fraction) (ys : List (ℕ × Fraction)) → exact_sum w (in_place x ys) ≡ plus (times x.1 (w x.0)) (exact_sum w ys)
sum_in_place w x [] = refl
sum_in_place w x (y ∷ ys) = by (nat_lt x.0 y.0) (sum_in_place w x ys)
  where
    by : (b : Bool) → exact_sum w (in_place x ys) ≡ plus (times x.1 (w x.0)) (exact_sum w ys)
        → exact_sum w (if b then x ∷ y ∷ ys else y ∷ in_place x ys) ≡ plus (times x.1 (w x.0)) (plus (times y.1 (w y.0)) (exact_sum w ys))
    by true e = refl
    by false e = ap (plus (times y.1 (w y.0))) e ∙ swapped (times y.1 (w y.0)) (times x.1 (w x.0)) (exact_sum w ys)

-- the order decides nothing
sum_ascending : (w : ℕ → Fraction) (xs : List (ℕ × Fraction)) → exact_sum w (by_number xs) ≡ exact_sum w xs
sum_ascending w [] = refl
sum_ascending w (x ∷ xs) = sum_in_place w x (by_number xs) ∙ ap (plus (times x.1 (w x.0))) (sum_ascending w xs)

-- the values by number
abbrev pub on_number : List Term → (Term → Fraction) → ℕ → Fraction
on_number terms v n = option_map_or v (slice_get terms n) zero

pub on_number_of : (terms : List Term) (v : Term → Fraction) (t : Term) → list_any (same_term t) terms ≡ true → on_number terms v (number_of same_term terms t) ≡ v t
on_number_of terms v t there = ap (λ o. option_map_or v o zero) (number_names same_term same_term-Decides terms t there)

sum_numbered : (terms : List Term) (v : Term → Fraction) (ts : List (Term × Fraction)) → AllByRecursion (λ t. list_any (same_term t.0) terms ≡ true) ts
    → exact_sum (on_number terms v) (numbered terms ts) ≡ terms_value v ts
sum_numbered terms v [] there = refl
sum_numbered terms v (t ∷ ts) there =
    ap (λ x. plus (times t.1 x) (exact_sum (on_number terms v) (numbered terms ts))) (on_number_of terms v t.0 there.0)
    ∙ ap (plus (times t.1 (v t.0))) (sum_numbered terms v ts there.1)

-- ---- scaled sums

-- a coefficient times the factor is whole, and the scaled value of its number is the unit times the value
abbrev pub IsExact : Fraction → Fraction → (ℕ → Fraction) → List ℤ → ℕ × Fraction → Type 0
IsExact factor unit w values c = (whole (scale.whole_times factor c.1) ≡ times factor c.1) × (whole (flat.value_at values c.0) ≡ times unit (w c.0))

exchanged : (t a u v : Fraction) → times (times t a) (times u v) ≡ times (times t u) (times a v)
exchanged t a u v = field (product (product (frac t) (frac a)) (product (frac u) (frac v))) (product (product (frac t) (frac u)) (product (frac a) (frac v))) (omega arith)

-- the form's sum is the factor times the unit times the exact sum
sum_scaled : (factor unit : Fraction) (w : ℕ → Fraction) (values : List ℤ) (cs : List (ℕ × Fraction)) → AllByRecursion (IsExact factor unit w values) cs
    → whole (flat.terms_value values (map (λ c. (c.0, scale.whole_times factor c.1)) cs)) ≡ times (times factor unit) (exact_sum w cs)
sum_scaled factor unit w values [] exact = sym (times_zero (times factor unit))
sum_scaled factor unit w values (c ∷ cs) exact =
    sym (whole_plus (scale.whole_times factor c.1 *ℤ flat.value_at values c.0) (flat.terms_value values (map (λ c. (c.0, scale.whole_times factor c.1)) cs)))
    ∙ ap (λ z. plus z (whole (flat.terms_value values (map (λ c. (c.0, scale.whole_times factor c.1)) cs))))
    (sym (whole_times (scale.whole_times factor c.1) (flat.value_at values c.0)) ∙ ap (λ z. times z (whole (flat.value_at values c.0))) exact.0.0
    ∙ ap (times (times factor c.1)) exact.0.1 ∙ exchanged factor c.1 unit (w c.0))
    ∙ ap (plus (times (times factor unit) (times c.1 (w c.0)))) (sum_scaled factor unit w values cs exact.1)
    ∙ sym (times-plus (times factor unit) (times c.1 (w c.0)) (exact_sum w cs))

constant_scaled : (c u t : Fraction) → times (times c u) t ≡ times (times t u) c
constant_scaled c u t = field (product (product (frac c) (frac u)) (frac t)) (product (product (frac t) (frac u)) (frac c)) (omega arith)

-- so is the whole side
value_scaled : (n : ℤ) (l c u t : Fraction) → whole n ≡ times (times t u) l → plus (whole n) (times (times c u) t) ≡ times (plus l c) (times t u)
value_scaled n l c u t e =
    ap (λ z. plus z (times (times c u) t)) e ∙ ap (plus (times (times t u) l)) (constant_scaled c u t) ∙ sym (times-plus (times t u) l c) ∙ times_comm (times t u) (plus l c)

unscaled : (l k : Fraction) → pos 0 <ℤ k.num → fraction_cmp (times l k) (whole (pos 0)) ≡ fraction_cmp l (whole (pos 0))
unscaled l k h = ap (fraction_cmp (times l k)) (sym (times_comm (whole (pos 0)) k ∙ times_zero k)) ∙ cmp_times l (whole (pos 0)) k h

-- ---- forms

-- at least 0, or above 0 where the flag is set
abbrev pub side_op : Bool → Op
side_op false = AtLeast
side_op true = Greater

abbrev pub side_holds : (Term → Fraction) → Inequality → Bool
side_holds v side = compares (side_op side.0) (linear_value v side.1) zero

rounded_says : (strict : Bool) (n : ℤ) (l c u t : Fraction) → pos 0 <ℤ (times t u).num → whole n ≡ times (times t u) l
    → int_le (pos 0) (constant_from strict (times (times c u) t) +ℤ n) ≡ compares (side_op strict) (plus l c) zero
rounded_says false n l c u t h e =
    down_says n (times (times c u) t) ∙ ap (λ z. is_ge (fraction_cmp z (whole (pos 0)))) (value_scaled n l c u t e) ∙ ap is_ge (unscaled (plus l c) (times t u) h)
rounded_says true n l c u t h e =
    up_says n (times (times c u) t) ∙ ap (λ z. is_gt (fraction_cmp z (whole (pos 0)))) (value_scaled n l c u t e) ∙ ap is_gt (unscaled (plus l c) (times t u) h)

-- a form is at least 0 exactly where its side holds
pub form_says : (terms : List Term) (unit : ℕ) (v : Term → Fraction) (values : List ℤ) (side : Inequality) → pos 0 <ℤ (times (factor_on terms side.1) (whole (pos unit))).num
    → AllByRecursion (λ t. list_any (same_term t.0) terms ≡ true) side.1.terms
    → AllByRecursion (IsExact (factor_on terms side.1) (whole (pos unit)) (on_number terms v) values) (coefficients_of terms side.1)
    → int_le (pos 0) ((form_of terms unit side).constant +ℤ flat.terms_value values (form_of terms unit side).terms) ≡ side_holds v side
form_says terms unit v values side h there exact =
    rounded_says side.0 (flat.terms_value values (form_of terms unit side).terms) (terms_value v side.1.terms) side.1.constant (whole (pos unit)) (factor_on terms side.1) h
    (sum_scaled (factor_on terms side.1) (whole (pos unit)) (on_number terms v) values (coefficients_of terms side.1) exact
    ∙ ap (times (times (factor_on terms side.1) (whole (pos unit)))) (sum_ascending (on_number terms v) (numbered terms side.1.terms) ∙ sum_numbered terms v side.1.terms there))
