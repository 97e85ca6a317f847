-- What changes do to a form's value.
use Rattle.std.proofs.Common.{◌≡◌, ◌≢◌, ℕ, ◌+◌, ◌*◌, ◌<◌, ℤ, pos, ◌+ℤ◌, ◌*ℤ◌, List, [], ◌∷◌, length, map, All, refl, sym, ap, ◌∙◌, subst, inl, inr, arith, get_or-set_other, get_or-set_same}
use Rattle.std.proofs.lemmas.Int.{ints}
use Rattle.std.proofs.lemmas.Bool.{cases_eq, eq-eqb, ne_eqb}
use Rattle.std.proofs.lemmas.List.{length-set}
use Rattle.std.proofs.lemmas.List.Elements.{All-head, All-tail}
use borrow.Author.Differences.{up, down}
use Rattle.np_flat.specs.declared.state.FlatState.{FlatState}
use Rattle.np_flat.specs.declared.parts.Form.{Form}
use Rattle.np_flat.specs.declared.parts.FlatStep.{FlatStep}
use Rattle.np_flat.specs.Flats.{IsAscending, AreAmounts}
use Rattle.np_flat.specs.States.{value_at, terms_value, form_value, changed, all_changed, state_after}
use Rattle.np_flat.proofs.Ascending.{above_first, ascending_rest}
use Rattle.np_flat.proofs.Forms.{amounts_within}
use Rattle.np_flat.specs.Achieving.{change_on, net_terms, net}

pub product : (a b : ℤ) → up (a *ℤ b) + (up a * down b + down a * up b) ≡ down (a *ℤ b) + (up a * up b + down a * down b)
product a b = omega (arith, ints)

sum_parts : (a b : ℤ) → up (a +ℤ b) + (down a + down b) ≡ down (a +ℤ b) + (up a + up b)
sum_parts a b = omega (arith, ints)

pub mul_add_ℤ : (a b c : ℤ) → a *ℤ (b +ℤ c) ≡ (a *ℤ b) +ℤ (a *ℤ c)
mul_add_ℤ a b c = omega (arith, ints, ap (λ n. n * up a) (sum_parts b c), ap (λ n. n * down a) (sum_parts b c), product a b, product a c, product a (b +ℤ c))

no_change : (cs : List (ℕ × ℤ)) (n : ℕ) → All (λ m. n < m) (map (λ c. c.0) cs) → change_on cs n ≡ pos 0
no_change [] n above = refl
no_change (c ∷ cs) n above =
    let lt : n < c.0 = above 0 0 (omega arith) in
    let ne : c.0 ≢ n = omega arith in
    rw (ne_eqb c.0 n ne) (no_change cs n (All-tail (λ m. n < m) c.0 (map (λ (d : ℕ × ℤ). d.0) cs) above))

add_zero_ℤ : (a : ℤ) → a +ℤ pos 0 ≡ a
add_zero_ℤ a = omega (arith, ints)

swap_last : (a b c : ℤ) → (a +ℤ b) +ℤ c ≡ a +ℤ (b +ℤ c)
swap_last a b c = omega (arith, ints)

-- each value has its change added
pub changed_by : (cs : List (ℕ × ℤ)) (values : List ℤ) (n : ℕ) → IsAscending (map (λ c. c.0) cs) → All (λ c. c.0 < length values) cs → value_at (all_changed cs values) n ≡ value_at values n +ℤ change_on cs n
changed_by [] values n ascending within = sym (add_zero_ℤ (value_at values n))
changed_by (c ∷ cs) values n ascending within =
    let here : c.0 < length values = All-head (λ (d : ℕ × ℤ). d.0 < length values) c cs within in
    let rest : All (λ d. d.0 < length (changed values c)) cs =
    subst (λ m. All (λ (d : ℕ × ℤ). d.0 < m) cs) (sym (length-set values c.0 (value_at values c.0 +ℤ c.1))) (All-tail (λ (d : ℕ × ℤ). d.0 < length values) c cs within) in
    let more = changed_by cs (changed values c) n (ascending_rest c.0 (map (λ (d : ℕ × ℤ). d.0) cs) ascending) rest in
    elim (cases_eq c.0 n) [
      | inl e ↦
          let none : change_on cs n ≡ pos 0 = no_change cs n (subst (λ k. All (λ m. k < m) (map (λ (d : ℕ × ℤ). d.0) cs)) e (above_first c.0 (map (λ (d : ℕ × ℤ). d.0) cs) ascending)) in
          let same : value_at (changed values c) n ≡ value_at values n +ℤ c.1 =
          subst (λ k. value_at (changed values c) k ≡ value_at values k +ℤ c.1) e (get_or-set_same values c.0 (value_at values c.0 +ℤ c.1) (pos 0) here) in
          more ∙ (rw (eq-eqb c.0 n e, none) (add_zero_ℤ (value_at (changed values c) n) ∙ same))
      | inr ne ↦
          let apart : n ≢ c.0 = omega arith in
          more ∙ (rw (ne_eqb c.0 n ne) (ap (λ z. z +ℤ change_on cs n) (get_or-set_other values c.0 n (value_at values c.0 +ℤ c.1) (pos 0) apart)))
    ]

regroup : (a b c d : ℤ) → (a +ℤ b) +ℤ (c +ℤ d) ≡ (a +ℤ c) +ℤ (b +ℤ d)
regroup a b c d = omega (arith, ints)

-- so the sum over the terms has the net change added
pub terms_changed : (cs : List (ℕ × ℤ)) (values : List ℤ) (ts : List (ℕ × ℤ)) → IsAscending (map (λ c. c.0) cs) → All (λ c. c.0 < length values) cs
    → terms_value (all_changed cs values) ts ≡ terms_value values ts +ℤ net_terms cs ts
terms_changed cs values [] ascending within = refl
terms_changed cs values (t ∷ ts) ascending within =
    rw (changed_by cs values t.0 ascending within, terms_changed cs values ts ascending within, mul_add_ℤ t.1 (value_at values t.0) (change_on cs t.0))
    (regroup (t.1 *ℤ value_at values t.0) (t.1 *ℤ change_on cs t.0) (terms_value values ts) (net_terms cs ts))

pub form_changed : (values : ℕ) (size : ℕ) (step : FlatStep) (form : Form) (s : FlatState) → AreAmounts values size step.changes → length s.values ≡ values → form_value form (state_after step s) ≡ form_value form s +ℤ net step form
form_changed values size step form s of count =
    let within : All (λ c. c.0 < length s.values) step.changes = subst (λ m. All (λ (c : ℕ × ℤ). c.0 < m) step.changes) (sym count) (amounts_within values size step.changes of) in
    rw (terms_changed step.changes s.values form.terms of.numbers.ascending within) (sym (swap_last form.constant (terms_value s.values form.terms) (net step form)))
