-- Net changes, term by term, and how large they and the values of forms are.
use Rattle.std.proofs.Common.{◌≡◌, ℕ, ◌+◌, ◌-◌, ◌*◌, ◌^◌, ◌<◌, ◌≤◌, ℤ, ◌+ℤ◌, ◌*ℤ◌, unsigned_abs, List, length, drop, take, min, get_or, All, sym, ap, ◌∙◌, subst, arith}
use Rattle.std.proofs.lemmas.Int.{unsigned_abs-mul}
use Rattle.std.proofs.lemmas.List.{at_drop_more, length-take}
use Rattle.std.proofs.lemmas.List.Elements.{All-take, All-weaker}
use Rattle.np_flat.specs.declared.state.FlatState.{FlatState}
use Rattle.np_flat.specs.declared.parts.Form.{Form}
use Rattle.np_flat.specs.Flats.{IsForm, AreSmall}
use Rattle.np_flat.specs.States.{terms_value, form_value}
use Rattle.np_flat.specs.Achieving.{change_on, net_terms}
use Rattle.np_flat.proofs.Forms.{abs_sum, last_to_front, product_small, amounts_small, terms_small}

pub net_more : (changes terms : List (ℕ × ℤ)) (i : ℕ) (d : ℕ × ℤ) (sum total : ℤ) → i < length terms → sum +ℤ net_terms changes (drop i terms) ≡ total
    → (sum +ℤ ((get_or terms i d).1 *ℤ change_on changes (get_or terms i d).0)) +ℤ net_terms changes (drop (i + 1) terms) ≡ total
net_more changes terms i d sum total h e =
    sym (last_to_front sum ((get_or terms i d).1 *ℤ change_on changes (get_or terms i d).0) (net_terms changes (drop (i + 1) terms)))
    ∙ ap (λ z. sum +ℤ z) (sym (at_drop_more (net_terms changes) terms i d h)) ∙ e

pub product_more : (sum a b : ℤ) (i : ℕ) → unsigned_abs sum ≤ i * ((2 ^ 31 - 1) * 2 ^ 62) → unsigned_abs a < 2 ^ 31 → unsigned_abs b ≤ 2 ^ 62 → unsigned_abs (sum +ℤ (a *ℤ b)) ≤ (i + 1) * ((2 ^ 31 - 1) * 2 ^ 62)
product_more sum a b i s f g =
    let one : unsigned_abs (a *ℤ b) ≤ (2 ^ 31 - 1) * 2 ^ 62 =
    subst (λ n. n ≤ (2 ^ 31 - 1) * 2 ^ 62) (sym (unsigned_abs-mul a b)) (product_small (unsigned_abs a) (unsigned_abs b) (2 ^ 31 - 1) (2 ^ 62) (omega arith) g) in
    omega (arith, abs_sum sum (a *ℤ b))

-- how large its sum is, up to any term
pub prefix_small : (form : Form) (values : List ℤ) (i : ℕ) → IsForm (length values) form → AreSmall values → unsigned_abs (form.constant +ℤ terms_value values (take i form.terms)) < 2 ^ 125
prefix_small form values i of small =
    let each : All (λ t. unsigned_abs t.1 ≤ 2 ^ 31) form.terms =
    All-weaker (λ (t : ℕ × ℤ). unsigned_abs t.1 < 2 ^ 31) (λ (t : ℕ × ℤ). unsigned_abs t.1 ≤ 2 ^ 31) (λ t k. omega arith) form.terms (amounts_small (length values) (2 ^ 31) form.terms of.terms) in
    let all : unsigned_abs (terms_value values (take i form.terms)) ≤ length (take i form.terms) * (2 ^ 31 * (2 ^ 87 + 2 ^ 62)) =
    terms_small (2 ^ 31) (2 ^ 87 + 2 ^ 62) values (take i form.terms) small (All-take (λ (t : ℕ × ℤ). unsigned_abs t.1 ≤ 2 ^ 31) i form.terms each) in
    let few : length (take i form.terms) ≤ 64 = few_taken (length (take i form.terms)) i (length form.terms) (length-take i form.terms) of.few in
    let constant : unsigned_abs form.constant < 2 ^ 100 = of.constant in
    omega (arith, abs_sum form.constant (terms_value values (take i form.terms)))
  where
    few_taken : (n i l : ℕ) → n ≡ min i l → l ≤ 64 → n ≤ 64
    few_taken n i l e h = grind arith

-- how large the value of a form is
pub form_small : (form : Form) (s : FlatState) (values : ℕ) → IsForm values form → AreSmall s.values → unsigned_abs (form_value form s) < 2 ^ 125
form_small form s values of small =
    let each : All (λ t. unsigned_abs t.1 ≤ 2 ^ 31) form.terms =
    All-weaker (λ (t : ℕ × ℤ). unsigned_abs t.1 < 2 ^ 31) (λ (t : ℕ × ℤ). unsigned_abs t.1 ≤ 2 ^ 31) (λ t k. omega arith) form.terms (amounts_small values (2 ^ 31) form.terms of.terms) in
    let all : unsigned_abs (terms_value s.values form.terms) ≤ length form.terms * (2 ^ 31 * (2 ^ 87 + 2 ^ 62)) = terms_small (2 ^ 31) (2 ^ 87 + 2 ^ 62) s.values form.terms small each in
    let few : length form.terms ≤ 64 = of.few in
    let constant : unsigned_abs form.constant < 2 ^ 100 = of.constant in
    omega (arith, abs_sum form.constant (terms_value s.values form.terms))
