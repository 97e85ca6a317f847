-- One term more, at the widths of the code.
use Rattle.std.proofs.Common.{◌≡◌, ℕ, ◌+◌, ◌*◌, ◌^◌, ◌≤◌, ◌<◌, ℤ, ◌+ℤ◌, ◌*ℤ◌, unsigned_abs, List, length, get_or, take, sym, subst, arith}
use Rattle.std.proofs.lemmas.Int.{to_z-of_z, unsigned_abs-mul}
use mir.Syntax.{w128}
use mir.Val.{SFits, to_z, of_z}
use Rattle.np_flat.specs.declared.parts.Form.{Form}
use Rattle.np_flat.specs.Flats.{IsForm, AreSmall}
use Rattle.np_flat.specs.States.{value_at, terms_value}
use Rattle.np_flat.proofs.Forms.{abs_sum, product_small, value_small, amounts_small, amounts_within, sum_more}
use Rattle.np_flat.proofs.Changes.{fits_wide}

pub term_is : (sum coefficient value : ℤ) → SFits w128 sum → SFits w128 coefficient → SFits w128 value → unsigned_abs sum ≤ 2 ^ 126 → unsigned_abs coefficient ≤ 2 ^ 31 → unsigned_abs value ≤ 2 ^ 88
    → to_z w128 (of_z w128 (to_z w128 (of_z w128 sum) +ℤ to_z w128 (of_z w128 (to_z w128 (of_z w128 coefficient) *ℤ to_z w128 (of_z w128 value))))) ≡ sum +ℤ (coefficient *ℤ value)
term_is sum coefficient value fs fc fv s c v =
    let size : unsigned_abs (coefficient *ℤ value) ≤ 2 ^ 31 * 2 ^ 88 =
    subst (λ n. n ≤ 2 ^ 31 * 2 ^ 88) (sym (unsigned_abs-mul coefficient value)) (product_small (unsigned_abs coefficient) (unsigned_abs value) (2 ^ 31) (2 ^ 88) c v) in
    let product : SFits w128 (coefficient *ℤ value) = fits_wide (coefficient *ℤ value) (omega arith) in
    let all : SFits w128 (sum +ℤ (coefficient *ℤ value)) = fits_wide (sum +ℤ (coefficient *ℤ value)) (omega (arith, abs_sum sum (coefficient *ℤ value))) in
    rw (to_z-of_z w128 sum fs, to_z-of_z w128 coefficient fc, to_z-of_z w128 value fv, to_z-of_z w128 (coefficient *ℤ value) product) (to_z-of_z w128 (sum +ℤ (coefficient *ℤ value)) all)

-- the term of this number reads a value, and its coefficient is small
pub number_within : (values xs : List ℤ) (form : Form) (ts : List (ℕ × ℤ)) (i : ℕ) (d : ℕ × ℤ) → IsForm (length values) form → xs ≡ values → ts ≡ form.terms → i < length ts → (get_or ts i d).0 < length xs
number_within values xs form ts i d of e f h =
    let within : i < length form.terms = subst (λ us. i < length us) f h in
    rw (e, f) (amounts_within (length values) (2 ^ 31) form.terms of.terms i d within)

pub coefficient_small : (values : List ℤ) (form : Form) (ts : List (ℕ × ℤ)) (i : ℕ) (d : ℕ × ℤ) → IsForm (length values) form → ts ≡ form.terms → i < length ts → unsigned_abs (get_or ts i d).1 ≤ 2 ^ 31
coefficient_small values form ts i d of f h =
    let within : i < length form.terms = subst (λ us. i < length us) f h in
    let small : unsigned_abs (get_or form.terms i d).1 < 2 ^ 31 = amounts_small (length values) (2 ^ 31) form.terms of.terms i d within in
    rw f (omega arith)

-- as the code reads it
pub coefficient_read : (values : List ℤ) (form : Form) (ts : List (ℕ × ℤ)) (i : ℕ) (d : ℕ × ℤ) → IsForm (length values) form → ts ≡ form.terms → i < length ts → to_z w128 (of_z w128 (get_or ts i d).1) ≡ (get_or ts i d).1
coefficient_read values form ts i d of f h =
    let small : unsigned_abs (get_or ts i d).1 ≤ 2 ^ 31 = coefficient_small values form ts i d of f h in
    to_z-of_z w128 (get_or ts i d).1 (fits_wide (get_or ts i d).1 (omega arith))

pub value_read : (values xs : List ℤ) (n : ℕ) → xs ≡ values → AreSmall values → to_z w128 (of_z w128 (value_at xs n)) ≡ value_at xs n
value_read values xs n e small =
    let here : unsigned_abs (value_at values n) ≤ 2 ^ 87 + 2 ^ 62 = value_small (2 ^ 87 + 2 ^ 62) values n small in
    let there : unsigned_abs (value_at xs n) ≤ 2 ^ 87 + 2 ^ 62 = subst (λ vs. unsigned_abs (value_at vs n) ≤ 2 ^ 87 + 2 ^ 62) (sym e) here in
    to_z-of_z w128 (value_at xs n) (fits_wide (value_at xs n) (omega arith))

-- the sum with the next term, as the code reads it
pub term_more : (values xs : List ℤ) (form : Form) (ts : List (ℕ × ℤ)) (i : ℕ) (d : ℕ × ℤ) (z : ℤ) → IsForm (length values) form → AreSmall values → xs ≡ values → ts ≡ form.terms → i < length ts
    → z ≡ form.constant +ℤ terms_value values (take i form.terms)
    → z +ℤ (to_z w128 (of_z w128 (get_or ts i d).1) *ℤ to_z w128 (of_z w128 (value_at xs (get_or ts i d).0))) ≡ form.constant +ℤ terms_value values (take (i + 1) form.terms)
term_more values xs form ts i d z of small e f h so_far =
    let within : i < length form.terms = subst (λ us. i < length us) f h in
    rw (coefficient_read values form ts i d of f h, value_read values xs (get_or ts i d).0 e small, so_far)
    (rw (e, f) (sym (sum_more form values i d within)))
