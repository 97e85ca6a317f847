-- How large sums of terms are.
use Rattle.std.proofs.Common.{◌≡◌, ℕ, suc, ◌+◌, ◌*◌, ◌^◌, ◌≤◌, ◌<◌, ℤ, pos, ◌+ℤ◌, ◌*ℤ◌, unsigned_abs, List, [], ◌∷◌, ◌++◌, length, get_or, take, All, sym, ap, ◌∙◌, subst, inl, inr, arith}
use Rattle.std.proofs.lemmas.Int.{ints, unsigned_abs-mul}
use Rattle.std.proofs.lemmas.Bool.{cases_lt}
use Rattle.std.proofs.lemmas.List.{length-map, length-take-le, get_or-map, get_or_past, take_more}
use Rattle.std.proofs.lemmas.List.Elements.{All-head, All-tail, All-take, All-weaker}
use Rattle.np_flat.specs.declared.parts.Form.{Form}
use Rattle.np_flat.specs.Flats.{AreAmounts, IsForm, AreSmall}
use Rattle.np_flat.specs.States.{value_at, terms_value}

-- a sum is no larger than its parts together
pub abs_sum : (a b : ℤ) → unsigned_abs (a +ℤ b) ≤ unsigned_abs a + unsigned_abs b
abs_sum a b = omega (arith, ints)

pub last_to_front : (a b c : ℤ) → a +ℤ (b +ℤ c) ≡ (a +ℤ b) +ℤ c
last_to_front a b c = omega (arith, ints)

zero_sides : (a : ℤ) → a +ℤ pos 0 ≡ pos 0 +ℤ a
zero_sides a = omega (arith, ints)

-- one more term
pub terms_value-push : (values : List ℤ) (ts : List (ℕ × ℤ)) (t : ℕ × ℤ) → terms_value values (ts ++ t ∷ []) ≡ terms_value values ts +ℤ (t.1 *ℤ value_at values t.0)
terms_value-push values [] t = zero_sides (t.1 *ℤ value_at values t.0)
terms_value-push values (u ∷ us) t =
    ap (λ z. (u.1 *ℤ value_at values u.0) +ℤ z) (terms_value-push values us t)
    ∙ last_to_front (u.1 *ℤ value_at values u.0) (terms_value values us) (t.1 *ℤ value_at values t.0)

-- a value, or the 0 where there is none, is as small as all
pub value_small : (most : ℕ) (values : List ℤ) (n : ℕ) → All (λ v. unsigned_abs v ≤ most) values → unsigned_abs (value_at values n) ≤ most
value_small most values n small =
    elim (cases_lt n (length values)) [
      | inl lt ↦ small n (pos 0) lt
      | inr ge ↦ subst (λ (v : ℤ). unsigned_abs v ≤ most) (sym (get_or_past values n (pos 0) ge)) (omega arith)
    ]

pub product_small : (a b c d : ℕ) → a ≤ c → b ≤ d → a * b ≤ c * d
product_small a b c d h k = grind arith

-- each term is at most so large
pub terms_small : (factor most : ℕ) (values : List ℤ) (ts : List (ℕ × ℤ)) → All (λ v. unsigned_abs v ≤ most) values → All (λ t. unsigned_abs t.1 ≤ factor) ts → unsigned_abs (terms_value values ts) ≤ length ts * (factor * most)
terms_small factor most values [] small few = omega arith
terms_small factor most values (t ∷ ts) small few =
    let one : unsigned_abs t.1 ≤ factor = All-head (λ (u : ℕ × ℤ). unsigned_abs u.1 ≤ factor) t ts few in
    let here : unsigned_abs (t.1 *ℤ value_at values t.0) ≤ factor * most =
    subst (λ n. n ≤ factor * most) (sym (unsigned_abs-mul t.1 (value_at values t.0))) (product_small (unsigned_abs t.1) (unsigned_abs (value_at values t.0)) factor most one (value_small most values t.0 small)) in
    let rest : unsigned_abs (terms_value values ts) ≤ length ts * (factor * most) = terms_small factor most values ts small (All-tail (λ (u : ℕ × ℤ). unsigned_abs u.1 ≤ factor) t ts few) in
    let sum = abs_sum (t.1 *ℤ value_at values t.0) (terms_value values ts) in
    let both : unsigned_abs (t.1 *ℤ value_at values t.0) + unsigned_abs (terms_value values ts) ≤ factor * most + length ts * (factor * most) = omega arith in
    let more = one_more (length ts) (factor * most) in
    omega arith
  where
    one_more : (n x : ℕ) → x + n * x ≡ suc n * x
    one_more n x = omega arith

-- the amounts of ascending numbers, one by one
pub amounts_small : (limit size : ℕ) (amounts : List (ℕ × ℤ)) → AreAmounts limit size amounts → All (λ a. unsigned_abs a.1 < size) amounts
amounts_small limit size amounts of k d h =
    subst (λ (v : ℤ). unsigned_abs v < size) (get_or-map (λ (a : ℕ × ℤ). a.1) amounts k d d.1 h) (of.small k d.1 (subst (λ n. k < n) (sym (length-map amounts (λ (a : ℕ × ℤ). a.1))) h))

pub amounts_within : (limit size : ℕ) (amounts : List (ℕ × ℤ)) → AreAmounts limit size amounts → All (λ a. a.0 < limit) amounts
amounts_within limit size amounts of k d h =
    subst (λ n. n < limit) (get_or-map (λ (a : ℕ × ℤ). a.0) amounts k d d.0 h) (of.numbers.within k d.0 (subst (λ n. k < n) (sym (length-map amounts (λ (a : ℕ × ℤ). a.0))) h))

-- what a form's sum is on the way is small
pub sum_small : (form : Form) (values : List ℤ) (i : ℕ) → IsForm (length values) form → AreSmall values → i < length form.terms → unsigned_abs (form.constant +ℤ terms_value values (take i form.terms)) ≤ 2 ^ 126
sum_small form values i of small h =
    let each : All (λ t. unsigned_abs t.1 ≤ 2 ^ 31) form.terms =
    All-weaker (λ (t : ℕ × ℤ). unsigned_abs t.1 < 2 ^ 31) (λ (t : ℕ × ℤ). unsigned_abs t.1 ≤ 2 ^ 31) (λ t k. omega arith) form.terms (amounts_small (length values) (2 ^ 31) form.terms of.terms) in
    let all = terms_small (2 ^ 31) (2 ^ 87 + 2 ^ 62) values (take i form.terms) small (All-take (λ (t : ℕ × ℤ). unsigned_abs t.1 ≤ 2 ^ 31) i form.terms each) in
    let many : length (take i form.terms) ≡ i = length-take-le i form.terms (omega arith) in
    let rest : unsigned_abs (terms_value values (take i form.terms)) ≤ i * (2 ^ 31 * (2 ^ 87 + 2 ^ 62)) = subst (λ n. unsigned_abs (terms_value values (take i form.terms)) ≤ n * (2 ^ 31 * (2 ^ 87 + 2 ^ 62))) many all in
    let few : length form.terms ≤ 64 = of.few in
    let constant : unsigned_abs form.constant < 2 ^ 100 = of.constant in
    omega (arith, abs_sum form.constant (terms_value values (take i form.terms)))

-- the sum with the next term
pub sum_more : (form : Form) (values : List ℤ) (i : ℕ) (d : ℕ × ℤ) → i < length form.terms → form.constant +ℤ terms_value values (take (i + 1) form.terms) ≡ (form.constant +ℤ terms_value values (take i form.terms)) +ℤ ((get_or form.terms i d).1 *ℤ value_at values (get_or form.terms i d).0)
sum_more form values i d h =
    ap (λ ts. form.constant +ℤ terms_value values ts) (take_more form.terms i d h)
    ∙ ap (λ z. form.constant +ℤ z) (terms_value-push values (take i form.terms) (get_or form.terms i d))
    ∙ last_to_front form.constant (terms_value values (take i form.terms)) ((get_or form.terms i d).1 *ℤ value_at values (get_or form.terms i d).0)
