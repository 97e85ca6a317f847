-- When two flat states, and two forms, are the same.
use Rattle.std.specs.Prelude.{ℕ, ℤ, Bool, ◌&&◌, ◌==◌, bytes_eq}
use Rattle.std.specs.Ordering.{int_eq}
use Rattle.std.proofs.Common.{◌≡◌, ap, Decides}
use Rattle.std.specs.Cmp.{IsEquivalence}
use Rattle.std.specs.Cmp.Lexicographic.{pointwise, pointwise_decides, lists_equiv, nat_list_eq_equiv}
use Rattle.std.specs.Cmp.{signed_Decides}
use Rattle.std.proofs.lemmas.Cmp.{and_equiv, on_equiv, nat_eq_equiv, int_eq_equiv}
use Rattle.std.proofs.lemmas.Bool.{eqb-true, eq-eqb}
use Rattle.std.proofs.lemmas.Bool.Decides.{Decides-and, Decides-like}
use Rattle.std.proofs.lemmas.Slice.Eq.{bytes_eq-Decides}
use Rattle.np_flat.specs.declared.state.FlatState.{FlatState}
use Rattle.np_flat.specs.declared.parts.Form.{Form}

-- two states are the same where their facts and their values are
abbrev pub same_state : FlatState → FlatState → Bool
same_state a b = bytes_eq a.facts b.facts && pointwise int_eq a.values b.values

-- the test decides whether two states are the same
pub same_state-Decides : (a b : FlatState) → Decides (same_state a b) (a ≡ b)
same_state-Decides a b =
    Decides-like (same_state a b) (λ p. λ i. record { facts = p.0 i; values = p.1 i }) (λ p. (ap (λ x. x.facts) p, ap (λ x. x.values) p))
    (Decides-and (bytes_eq a.facts b.facts) (pointwise int_eq a.values b.values) (bytes_eq-Decides a.facts b.facts) (pointwise_decides signed_Decides a.values b.values))

-- and is an equivalence
pub same_state_laws : IsEquivalence same_state
same_state_laws = and_equiv (on_equiv (λ a. a.facts) nat_list_eq_equiv) (on_equiv (λ a. a.values) (lists_equiv int_eq_equiv))

-- two terms are the same where their values' numbers and their coefficients are
abbrev pub same_term : ℕ × ℤ → ℕ × ℤ → Bool
same_term t u = (t.0 == u.0) && int_eq t.1 u.1

-- two forms are the same where their constants and their terms are
abbrev pub same_form : Form → Form → Bool
same_form a b = int_eq a.constant b.constant && pointwise same_term a.terms b.terms

same_term-Decides : (t u : ℕ × ℤ) → Decides (same_term t u) (t ≡ u)
same_term-Decides t u =
    Decides-like (same_term t u) (λ p. λ i. (p.0 i, p.1 i)) (λ p. (ap (λ x. x.0) p, ap (λ x. x.1) p))
    (Decides-and (t.0 == u.0) (int_eq t.1 u.1) (eqb-true t.0 u.0, eq-eqb t.0 u.0) (signed_Decides t.1 u.1))

-- the test decides whether two forms are the same
pub same_form-Decides : (a b : Form) → Decides (same_form a b) (a ≡ b)
same_form-Decides a b =
    Decides-like (same_form a b) (λ p. λ i. record { constant = p.0 i; terms = p.1 i }) (λ p. (ap (λ x. x.constant) p, ap (λ x. x.terms) p))
    (Decides-and (int_eq a.constant b.constant) (pointwise same_term a.terms b.terms) (signed_Decides a.constant b.constant) (pointwise_decides same_term-Decides a.terms b.terms))

-- and is an equivalence
pub same_form_laws : IsEquivalence same_form
same_form_laws =
    and_equiv (on_equiv (λ a. a.constant) int_eq_equiv) (on_equiv (λ a. a.terms) (lists_equiv (and_equiv (on_equiv (λ t. t.0) nat_eq_equiv) (on_equiv (λ t. t.1) int_eq_equiv))))
