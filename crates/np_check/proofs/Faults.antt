-- One entry after the other is good, and then the certificate is valid.
use Rattle.std.proofs.Common.{◌≡◌, ℕ, ◌+◌, ◌<◌, inl, inr, Bool, true, false, not, List, length, Option, None, Some, slice_get, get_or, MatchOption, refl, sym, ◌∙◌, ap, subst, true≢false, eqb, eqb-true, IsTrue, arith}
use Rattle.std.specs.Option.{option_eq}
use Rattle.std.proofs.lemmas.Bool.{cases_eq}
use Rattle.std.proofs.lemmas.Option.{same_Some, slice_get_within, slice_get-get_or}
use Rattle.np_flat.specs.declared.parts.Parts.{Parts}
use Rattle.np_cert.specs.declared.certificate.Entry.{Entry}
use Rattle.np_cert.specs.declared.certificate.Certificate.{Certificate}
use Rattle.np_cert.specs.Valid.{at_most, bound_at, is_small, IsJustified, IsRepeated, IsValid}
use Rattle.np_check.specs.First.{HasNone, IsFirst}
use Rattle.np_check.specs.Verdicts.{AreGood}

-- the number that a look-up gave is this one
the_number : (found : Option ℕ) (n : ℕ) → false ≡ not (option_eq eqb found (Some n)) → found ≡ Some n
the_number None n e = absurd (true≢false (sym e))
the_number (Some k) n e = by (eqb k n) refl e
  where
    by : (b : Bool) → eqb k n ≡ b → false ≡ not b → Some k ≡ Some n
    by true same e = ap Some (eqb-true k n same)
    by false other e = absurd (true≢false (sym e))

-- what is the first entry of its state repeats none
pub once_first : (entries : List Entry) (n : ℕ) (e : Entry) (found : Option ℕ) → slice_get entries n ≡ Some e
    → MatchOption found (HasNone entries e.state 0 (length entries)) (IsFirst entries e.state 0)
    → false ≡ not (option_eq eqb found (Some n)) → IsRepeated entries n → ⊥
once_first entries n e found there said is r =
    let first : IsFirst entries e.state 0 n = subst (λ o. MatchOption o (HasNone entries e.state 0 (length entries)) (IsFirst entries e.state 0)) (the_number found n is) said in
    first.earlier r.earlier r.first (omega arith) r.before r.first_is (r.same ∙ ap (λ (x : Entry). x.state) (same_Some r.second e (sym r.second_is ∙ there)))

-- one more good entry
pub good_more : (task : Parts) (c : Certificate) (n : ℕ) (e : Entry) → slice_get c.entries n ≡ Some e → AreGood task c n → (IsRepeated c.entries n → ⊥) → IsJustified task c.proofs c.entries e → AreGood task c (n + 1)
good_more task c n e there before once justified = record {
  proofs = before.proofs;
  distinct = λ m lt. elim (cases_eq m n) [ inl at ↦ (λ r. once (subst (IsRepeated c.entries) at r)) | inr apart ↦ before.distinct m (omega arith) ];
  justified = λ m x lt is. elim (cases_eq m n) [
    | inl at ↦ subst (IsJustified task c.proofs c.entries) (same_Some e x (sym there ∙ (ap (slice_get c.entries) (sym at) ∙ is))) justified
    | inr apart ↦ before.justified m x (omega arith) is
  ];
}

-- a certificate of good entries, whose claim holds, is valid
pub valid_is : (task : Parts) (c : Certificate) (entries : List Entry) → entries ≡ c.entries → AreGood task c (length c.entries)
    → (IsTrue (is_small c.claim) × IsTrue (at_most c.claim (bound_at entries task.start))) → IsValid task c
valid_is task c entries same good claimed = record {
  proofs = good.proofs;
  distinct = λ n r. good.distinct n (within n r) r;
  justified = λ n d lt. good.justified n (get_or c.entries n d) lt (slice_get-get_or c.entries n d lt);
  claimed = record { small = claimed.0; bounded = subst (λ es. IsTrue (at_most c.claim (bound_at es task.start))) same claimed.1 };
}
  where
    within : (n : ℕ) → IsRepeated c.entries n → n < length c.entries
    within n r = slice_get_within c.entries n r.second r.second_is
