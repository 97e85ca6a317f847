-- The first entry of each state: how the map grows from the last entry to the first, and whose bound counts.
use Rattle.std.proofs.Common.{◌≡◌, ℕ, zero, suc, ◌+◌, ◌≤◌, Bool, true, false, ◌&&◌, not, is_some, IsTrue, cond, inl, inr, List, [], ◌∷◌, length, Option, None, Some, slice_get, MatchOption, refl, sym, ◌∙◌, ap, subst, true≢false, if◌then◌else◌, arith}
use Rattle.std.specs.Borrow.{Bor}
use Rattle.std.specs.HashMap.{HashMap, get}
use Rattle.std.specs.Map.{lookup}
use Rattle.std.specs.Option.{option_map}
use Rattle.std.proofs.lemmas.Bool.{cases_eq}
use Rattle.std.proofs.lemmas.Option.{none-some, same_Some, slice_get_within}
use Rattle.np_flat.specs.declared.state.FlatState.{FlatState}
use Rattle.np_flat.specs.Same.{same_state, same_state-Decides}
use Rattle.np_cert.specs.declared.certificate.Limit.TheVariants.{Number}
use Rattle.np_cert.specs.declared.certificate.Entry.{Entry}
use Rattle.np_cert.specs.Valid.{bound_at}
use Rattle.np_check.specs.First.{HasNone, IsFirst, AreFirst, AreDistinct}

-- what a look-up may say
abbrev pub Says : List Entry → FlatState → ℕ → Option ℕ → Type 0
Says entries s from found = MatchOption found (HasNone entries s from (length entries)) (IsFirst entries s from)

module _ (entries : List Entry) (from : ℕ) (e : Entry) (there : slice_get entries from ≡ Some e) where
  -- one more entry at the front, of another state
  none_more : (s : FlatState) (below : ℕ) → (e.state ≡ s → ⊥) → HasNone entries s (from + 1) below → HasNone entries s from below
  none_more s below other none n x late lt is same =
      elim (cases_eq n from) [
        | inl at ↦ other (subst (λ (y : Entry). y.state ≡ s) (same_Some x e (sym is ∙ ap (slice_get entries) at ∙ there)) same)
        | inr apart ↦ none n x (omega arith) lt is same
      ]

  pub says_more : (s : FlatState) (found : Option ℕ) → Says entries s (from + 1) found → Says entries s from (cond (same_state e.state s) (Some from) found)
  says_more s found said = by (same_state e.state s) refl found said
    where
      first : e.state ≡ s → IsFirst entries s from from
      first same = record { late = omega arith; entry = e; there = there; same = same; earlier = λ n x late lt is alike. omega arith }

      by : (b : Bool) → same_state e.state s ≡ b → (found : Option ℕ) → Says entries s (from + 1) found → Says entries s from (cond b (Some from) found)
      by true same found said = first ((same_state-Decides e.state s).0 same)
      by false other None said = none_more s (length entries) (λ same. true≢false (sym ((same_state-Decides e.state s).1 same) ∙ other)) said
      by false other (Some k) said = record {
        late = let late = said.late in omega arith;
        entry = said.entry;
        there = said.there;
        same = said.same;
        earlier = none_more s k (λ same. true≢false (sym ((same_state-Decides e.state s).1 same) ∙ other)) said.earlier;
      }

-- nothing is in the map where no entries were looked at
pub first_none : {S : Type 0} (numbers : HashMap (Bor FlatState) ℕ S) (entries : List Entry) (from : ℕ) → numbers.entries ≡ [] → length entries ≤ from → AreFirst numbers entries from
first_none numbers entries from empty past q =
    subst (λ (es : List (Bor FlatState × ℕ)). Says entries q.now from (lookup (λ (y : Bor FlatState). same_state q.now y.now) es)) (sym empty)
    (λ n e late lt is same. omega arith)

-- one more entry at the front
pub first_more : {S : Type 0} (old new : HashMap (Bor FlatState) ℕ S) (entries : List Entry) (from next : ℕ) (e : Entry) → from + 1 ≡ next → slice_get entries from ≡ Some e
    → ((q : Bor FlatState) → get (λ x y. same_state x.now y.now) new q ≡ cond (same_state e.state q.now) (Some from) (get (λ x y. same_state x.now y.now) old q))
    → AreFirst old entries next → AreFirst new entries from
first_more old new entries from next e one there updates before q =
    subst (Says entries q.now from) (sym (updates q))
    (says_more entries from e there q.now (get (λ x y. same_state x.now y.now) old q)
    (subst (λ n. Says entries q.now n (get (λ x y. same_state x.now y.now) old q)) (sym one) (before q)))

-- the bound of the first entry of a state counts
pub bound_first : (entries : List Entry) (s : FlatState) (number : ℕ) (e : Entry) → slice_get entries number ≡ Some e → e.state ≡ s → HasNone entries s 0 number → bound_at entries s ≡ e.bound
bound_first [] s number e there same none = absurd (none-some e there)
bound_first (x ∷ xs) s zero e there same none =
    ap (λ b. if b then x.bound else bound_at xs s) ((same_state-Decides x.state s).1 (ap (λ (y : Entry). y.state) (same_Some x e there) ∙ same))
    ∙ ap (λ (y : Entry). y.bound) (same_Some x e there)
bound_first (x ∷ xs) s (suc number) e there same none =
    by (same_state x.state s) refl (bound_first xs s number e there same (λ n y late lt is. none (suc n) y (omega arith) (omega arith) is))
  where
    by : (b : Bool) → same_state x.state s ≡ b → bound_at xs s ≡ e.bound → (if b then x.bound else bound_at xs s) ≡ e.bound
    by true alike rest = absurd (none 0 x (omega arith) (omega arith) refl ((same_state-Decides x.state s).0 alike))
    by false other rest = rest

-- and 0 where there is none
pub bound_none : (entries : List Entry) (s : FlatState) → HasNone entries s 0 (length entries) → bound_at entries s ≡ Number 0
bound_none [] s none = refl
bound_none (x ∷ xs) s none =
    by (same_state x.state s) refl (bound_none xs s (λ n y late lt is. none (suc n) y (omega arith) (omega arith) is))
  where
    by : (b : Bool) → same_state x.state s ≡ b → bound_at xs s ≡ Number 0 → (if b then x.bound else bound_at xs s) ≡ Number 0
    by true alike rest = absurd (none 0 x (omega arith) (omega arith) refl ((same_state-Decides x.state s).0 alike))
    by false other rest = rest

-- no two of no entries have the same state
pub distinct_none : (entries : List Entry) (from : ℕ) → length entries ≤ from → AreDistinct entries from
distinct_none entries from past n e late there m x later within is same = omega arith

-- nor do one more entry at the front, of a state that none after it has, and the others
pub distinct_more : (entries : List Entry) (from next : ℕ) (e : Entry) → from + 1 ≡ next → slice_get entries from ≡ Some e → HasNone entries e.state next (length entries) → AreDistinct entries next → AreDistinct entries from
distinct_more entries from next e one there none before n x late is =
    elim (cases_eq n from) [
      | inl at ↦
          let same : e ≡ x = same_Some e x (sym there ∙ (ap (slice_get entries) (sym at) ∙ is)) in
          let behind : next ≡ n + 1 = omega arith in
          subst (λ k. HasNone entries x.state k (length entries)) behind (subst (λ (y : Entry). HasNone entries y.state next (length entries)) same none)
      | inr apart ↦ before n x (omega arith) is
    ]

-- where no two have the same state, each is the first one of its own
pub distinct_first : (entries : List Entry) (n : ℕ) (s : FlatState) → AreDistinct entries 0 → option_map (λ (e : Entry). e.state) (slice_get entries n) ≡ Some s → IsFirst entries s 0 n
distinct_first entries n s distinct has = by (slice_get entries n) refl has
  where
    by : (o : Option Entry) → slice_get entries n ≡ o → option_map (λ (e : Entry). e.state) o ≡ Some s → IsFirst entries s 0 n
    by None there is = absurd (none-some s is)
    by (Some x) there is =
        let same : x.state ≡ s = same_Some x.state s is in
        record {
          late = omega arith;
          entry = x;
          there = there;
          same = same;
          earlier = λ m y late lt there_too alike. distinct m y (omega arith) there_too n x (omega arith) (slice_get_within entries n x there) there (same ∙ sym alike);
        }

-- where no two have the same state, and a look-up of one more state at the front finds none
pub once_more : {S : Type 0} (old : HashMap (Bor FlatState) ℕ S) (entries : List Entry) (from next : ℕ) (e : Entry) (q : Bor FlatState) (found : Option ℕ) (distinct none : Bool) → from + 1 ≡ next → slice_get entries from ≡ Some e → found ≡ get (λ x y. same_state x.now y.now) old q
    → q.now ≡ e.state → is_some found ≡ not none → AreFirst old entries next → (IsTrue distinct → AreDistinct entries next) → IsTrue (distinct && none) → AreDistinct entries from
once_more old entries from next e q None true true one there found key is before distinct both =
    distinct_more entries from next e one there (subst (λ s. HasNone entries s next (length entries)) key (subst (Says entries q.now next) (sym found) (before q))) (distinct refl)
once_more old entries from next e q (Some n) true true one there found key is before distinct both = absurd (true≢false is)
once_more old entries from next e q found true false one there is key none before distinct both = absurd (true≢false (sym both))
once_more old entries from next e q found false none one there is key some before distinct both = absurd (true≢false (sym both))
