-- What filing a number does to the rows.
use Rattle.std.proofs.Common.{◌≡◌, ◌⊎◌, ℕ, ◌+◌, ◌<◌, true, false, eqb, List, [], ◌∷◌, ◌++◌, length, set, All, refl, sym, ap, ◌∙◌, subst, inl, inr, arith}
use Rattle.std.proofs.lemmas.Bool.{cases_eq, cases_lt, eq-eqb, eqb-true, or_cases, or_left, or_right, false≢true}
use Rattle.std.proofs.lemmas.List.{get_or-set_same, get_or-set_other, length-set, get_or_past}
use Rattle.std.proofs.lemmas.List.Elements.{All-nil, All-head, All-tail, All-push, All-weaker}
use Rattle.np_flat.specs.declared.parts.Parts.{Parts}
use Rattle.np_flat.specs.States.{has}
use Rattle.np_flat.specs.Readers.{row}
use Rattle.np_relax.specs.Needing.{filed, needs_of, IsFiled}
use Rattle.np_relax.proofs.Works.{has_push}

row_one : (t : List (List ℕ)) (q n p : ℕ) → q < length t → ((p ≡ q) × (row (set t q (row t q ++ n ∷ [])) p ≡ row t q ++ n ∷ [])) ⊎ (row (set t q (row t q ++ n ∷ [])) p ≡ row t p)
row_one t q n p h =
    elim (cases_eq p q) [
      | inl same ↦ inl (same, subst (λ k. row (set t q (row t q ++ n ∷ [])) k ≡ row t q ++ n ∷ []) (sym same) (get_or-set_same t q (row t q ++ n ∷ []) [] h))
      | inr ne ↦ inr (get_or-set_other t q p (row t q ++ n ∷ []) [] ne)
    ]

keeps_one : (t : List (List ℕ)) (q n p m : ℕ) → q < length t → has (row t p) m ≡ true → has (row (set t q (row t q ++ n ∷ [])) p) m ≡ true
keeps_one t q n p m h i =
    elim (row_one t q n p h) [
      | inl new ↦ ap (λ r. has r m) new.1 ∙ has_push (row t q) n m ∙ or_left (has (row t q) m) (has (n ∷ []) m) (subst (λ k. has (row t k) m ≡ true) new.0 i)
      | inr old ↦ ap (λ r. has r m) old ∙ i
    ]

has_one : (t : List (List ℕ)) (q n : ℕ) → q < length t → has (row (set t q (row t q ++ n ∷ [])) q) n ≡ true
has_one t q n h = ap (λ r. has r n) (get_or-set_same t q (row t q ++ n ∷ []) [] h) ∙ has_push (row t q) n n ∙ or_right (has (row t q) n) (has (n ∷ []) n) (or_left (eqb n n) false (eq-eqb n n refl))

within_one : (k : ℕ) (t : List (List ℕ)) (q n p : ℕ) → q < length t → ((r : ℕ) → All (λ m. m < k) (row t r)) → n < k → All (λ m. m < k) (row (set t q (row t q ++ n ∷ [])) p)
within_one k t q n p h all small =
    elim (row_one t q n p h) [
      | inl new ↦ subst (All (λ m. m < k)) (sym new.1) (All-push (λ m. m < k) (row t q) n (all q) small)
      | inr old ↦ subst (All (λ m. m < k)) (sym old) (all p)
    ]

module _ (n : ℕ) where
  longer : (t : List (List ℕ)) (q : ℕ) (qs : List ℕ) → All (λ p. p < length t) qs → All (λ p. p < length (set t q (row t q ++ n ∷ []))) qs
  longer t q qs all = All-weaker (λ p. p < length t) (λ p. p < length (set t q (row t q ++ n ∷ []))) (λ p h. subst (λ k. p < k) (sym (length-set t q (row t q ++ n ∷ []))) h) qs all

  pub filed_count : (qs : List ℕ) (t : List (List ℕ)) → length (filed qs n t) ≡ length t
  filed_count [] t = refl
  filed_count (q ∷ qs) t = filed_count qs (set t q (row t q ++ n ∷ [])) ∙ length-set t q (row t q ++ n ∷ [])

  filed_keeps : (qs : List ℕ) (t : List (List ℕ)) (p m : ℕ) → All (λ p. p < length t) qs → has (row t p) m ≡ true → has (row (filed qs n t) p) m ≡ true
  filed_keeps [] t p m within h = h
  filed_keeps (q ∷ qs) t p m within h =
      filed_keeps qs (set t q (row t q ++ n ∷ [])) p m (longer t q qs (All-tail (λ p. p < length t) q qs within)) (keeps_one t q n p m (All-head (λ p. p < length t) q qs within) h)

  filed_has : (qs : List ℕ) (t : List (List ℕ)) (p : ℕ) → All (λ p. p < length t) qs → has qs p ≡ true → has (row (filed qs n t) p) n ≡ true
  filed_has [] t p within h = absurd (false≢true h)
  filed_has (q ∷ qs) t p within h =
      let rest = longer t q qs (All-tail (λ p. p < length t) q qs within) in
      elim (or_cases (eqb q p) (has qs p) h) [
        | inl same ↦ filed_keeps qs (set t q (row t q ++ n ∷ [])) p n rest (subst (λ k. has (row (set t q (row t q ++ n ∷ [])) k) n ≡ true) (eqb-true q p same) (has_one t q n (All-head (λ p. p < length t) q qs within)))
        | inr later ↦ filed_has qs (set t q (row t q ++ n ∷ [])) p rest later
      ]

  filed_within : (k : ℕ) (qs : List ℕ) (t : List (List ℕ)) → All (λ p. p < length t) qs → ((r : ℕ) → All (λ m. m < k) (row t r)) → n < k → (p : ℕ) → All (λ m. m < k) (row (filed qs n t) p)
  filed_within k [] t within all small p = all p
  filed_within k (q ∷ qs) t within all small p =
      filed_within k qs (set t q (row t q ++ n ∷ [])) (longer t q qs (All-tail (λ p. p < length t) q qs within)) (λ r. within_one k t q n r (All-head (λ p. p < length t) q qs within) all small) small p

-- one step more
pub filed_more : (task : Parts) (t u : List (List ℕ)) (needs : List ℕ) (n : ℕ) → All (λ q. q < length task.subgoals) needs → needs ≡ needs_of task n → IsFiled task n t → u ≡ filed needs n t → IsFiled task (n + 1) u
filed_more task t u needs n within same are e = subst (λ x. IsFiled task (n + 1) x) (sym e) record {
  count = filed_count n needs t ∙ are.count;
  has_each = λ m q lt h. elim (cases_eq m n) [
    | inl now ↦ subst (λ k. has (row (filed needs n t) q) k ≡ true) (sym now) (filed_has n needs t q inside (ap (λ xs. has xs q) same ∙ subst (λ k. has (needs_of task k) q ≡ true) now h))
    | inr before ↦ filed_keeps n needs t q m inside (are.has_each m q (omega arith) h)
  ];
  within = filed_within n (n + 1) needs t inside (λ q. All-weaker (λ m. m < n) (λ m. m < n + 1) (λ m h. omega arith) (row t q) (are.within q)) (omega arith);
}
  where
    inside : All (λ q. q < length t) needs
    inside = subst (λ k. All (λ q. q < k) needs) (sym are.count) within

pub filed_none : (task : Parts) (t : List (List ℕ)) → length t ≡ length task.subgoals → All (λ r. r ≡ []) t → IsFiled task 0 t
filed_none task t count blank = record {
  count = count;
  has_each = λ n q lt h. absurd (omega arith);
  within = λ q. subst (All (λ n. n < 0)) (sym (empty q)) (All-nil (λ n. n < 0));
}
  where
    empty : (q : ℕ) → row t q ≡ []
    empty q = elim (cases_lt q (length t)) [ inl lt ↦ blank q [] lt | inr ge ↦ get_or_past t q [] ge ]
