-- Entries after a node goes in or out.
use Rattle.std.proofs.Common.{◌≡◌, ◌≢◌, ℕ, Bool, true, false, Option, Some, None, refl, sym, ap, subst, ◌∙◌, true≢false, ◌⊎◌, inl, inr, ⊎_elim}
use Rattle.std.proofs.lemmas.Bool.{cases_eq}
use Rattle.std.proofs.lemmas.Option.{same_Some}
use Rattle.np_search.specs.declared.open_list.Key.{Key}
use Rattle.np_search.specs.Opens.{Entries}
use Rattle.np_search.specs.Keys.{IsSameList, PutsAny, TakesAny}

-- two keys are the same or not
pub same_key : (k l : Key) → (k ≡ l) ⊎ ¬ (k ≡ l)
same_key k l = by (cases_eq k.first l.first) (cases_eq k.second l.second)
  where
    by : (k.first ≡ l.first) ⊎ ¬ (k.first ≡ l.first) → (k.second ≡ l.second) ⊎ ¬ (k.second ≡ l.second) → (k ≡ l) ⊎ ¬ (k ≡ l)
    by (inl p) (inl q) = inl (λ i. record { first = p i; second = q i })
    by (inl p) (inr q) = inr (λ h. q (ap (λ (x : Key). x.second) h))
    by (inr p) q = inr (λ h. p (ap (λ (x : Key). x.first) h))

module _ (old new : Entries) (node : ℕ) where
  -- other nodes keep their entries
  pub others_put : (o : Option Key) → PutsAny old new node o → (i : ℕ) (k : Key) → i ≢ node → new i k ≡ old i k
  others_put None p i k ne = p.same i k
  others_put (Some key) p i k ne = p.others i k (λ h. ne h.0)

  pub others_taken : (o : Option Key) → TakesAny old new node o → (i : ℕ) (k : Key) → i ≢ node → new i k ≡ old i k
  others_taken None p i k ne = p.same i k
  others_taken (Some key) p i k ne = p.others i k (λ h. ne h.0)

  -- the node is there with its key
  pub there_put : (o : Option Key) (key : Key) → o ≡ Some key → PutsAny old new node o → new node key ≡ true
  there_put None key e p = absurd (cc)
  there_put (Some k) key e p = subst (λ (x : Key). new node x ≡ true) (same_Some k key e) p.there

  -- with no other key than before
  pub only_put : (o : Option Key) → PutsAny old new node o → (key : Key) → new node key ≡ true → (o ≡ Some key) ⊎ (old node key ≡ true)
  only_put None p key e = inr (sym (p.same node key) ∙ e)
  only_put (Some k) p key e = by (same_key key k)
    where
      by : (key ≡ k) ⊎ ¬ (key ≡ k) → (Some k ≡ Some key) ⊎ (old node key ≡ true)
      by (inl same) = inl (ap Some (sym same))
      by (inr other) = inr (sym (p.others node key (λ h. other h.1)) ∙ e)

  -- a node that had one key is out
  pub none_taken : (o : Option Key) → TakesAny old new node o → ((key : Key) → old node key ≡ true → o ≡ Some key) → (key : Key) → new node key ≡ false
  none_taken o p had key = by (new node key) refl o p had
    where
      by : (b : Bool) → new node key ≡ b → (o : Option Key) → TakesAny old new node o → ((key : Key) → old node key ≡ true → o ≡ Some key) → b ≡ false
      by false e o p had = refl
      by true e None p had = absurd (let h : None ≡ Some key = had key (sym (p.same node key) ∙ e) in cc)
      by true e (Some k) p had = absurd (⊎_elim
          (λ (same : key ≡ k). true≢false (sym e ∙ ap (new node) same ∙ p.gone))
          (λ (other : ¬ (key ≡ k)).
          let h : Some k ≡ Some key = had key (sym (p.others node key (λ h. other h.1)) ∙ e) in
          other (sym (same_Some k key h)))
          (same_key key k))

-- lists with the same entries are the same
pub same_entries : (old new : Entries) → IsSameList old new → old ≡ new
same_entries old new h = λ i n k. sym (h.same n k) i
