-- What the usable steps allow each subgoal, and that the entries within it are a table.
use Rattle.std.proofs.Common.{◌≡◌, ◌⊎◌, ℕ, ◌+◌, ◌<◌, true, ◌&&◌, cond, eqb, List, [], ◌∷◌, length, set, All, refl, sym, ap, ◌∙◌, subst, inl, inr, arith, Some, None}
use Rattle.std.specs.Prelude.{slice_get}
use Rattle.std.specs.List.{list_all}
use Rattle.std.proofs.lemmas.Bool.{cases_eq, cases_lt, eq-eqb, eqb-true, or_cases, or_left, or_right, false≢true}
use Rattle.std.proofs.lemmas.List.{get_or-set_same, get_or-set_other, length-set}
use Rattle.std.proofs.lemmas.List.Elements.{All-head, All-tail, All-weaker}
use Rattle.std.proofs.lemmas.Option.{same_Some, none-some}
use Rattle.np_flat.specs.declared.state.FlatState.{FlatState}
use Rattle.np_flat.specs.declared.parts.FlatStep.{FlatStep}
use Rattle.np_flat.specs.declared.parts.Parts.{Parts}
use Rattle.np_flat.specs.States.{has}
use Rattle.np_flat.specs.Plans.{cost_of}
use Rattle.np_flat.specs.Achieving.{achieved_by}
use Rattle.np_relax.specs.Needing.{needs_of}
use Rattle.np_relax.specs.Work.{achieved}
use Rattle.np_relax.proofs.Achieved.{achieved_has, achieved_within}
use Rattle.np_table.specs.Tables.{Entry, IsAtMost, larger, reach, at}
use Rattle.np_table.specs.Units.{paid, IsPaid}
use Rattle.np_table.specs.Given.{lesser, allowed, noted, noted_by, is_number, IsNoted}
use Rattle.np_table.proofs.Orders.{at_most_refl, at_most_trans}
use Rattle.np_table.proofs.Pays.{paid_step}

lesser_left : (e : Entry) (n : ℕ) → IsAtMost (Some (lesser e n)) e
lesser_left None n = tt
lesser_left (Some m) n = omega arith

lesser_right : (e : Entry) (n : ℕ) → IsAtMost (Some (lesser e n)) (Some n)
lesser_right None n = omega arith
lesser_right (Some m) n = omega arith

lesser_either : (e : Entry) (n : ℕ) → (Some (lesser e n) ≡ e) ⊎ (lesser e n ≡ n)
lesser_either None n = inr refl
lesser_either (Some m) n = elim (cases_lt m n) [ inl lt ↦ inl (ap (λ k. Some k) (omega arith)) | inr ge ↦ inr (omega arith) ]

module _ (task : Parts) (cost r : ℕ) where
  abbrev of : ℕ → ℕ
  of q = allowed task cost r q

  abbrev one : List Entry → ℕ → List Entry
  one xs q = set xs q (Some (lesser (at xs q) (of q)))

  longer : (xs : List Entry) (q : ℕ) (qs : List ℕ) → All (λ p. p < length xs) qs → All (λ p. p < length (one xs q)) qs
  longer xs q qs all = All-weaker (λ p. p < length xs) (λ p. p < length (one xs q)) (λ p h. subst (λ k. p < k) (sym (length-set xs q (Some (lesser (at xs q) (of q))))) h) qs all

  is_one : (xs : List Entry) (q : ℕ) → q < length xs → at (one xs q) q ≡ Some (lesser (at xs q) (of q))
  is_one xs q h = get_or-set_same xs q (Some (lesser (at xs q) (of q))) None h

  is_other : (xs : List Entry) (q p : ℕ) → (p ≡ q → ⊥) → at (one xs q) p ≡ at xs p
  is_other xs q p ne = get_or-set_other xs q p (Some (lesser (at xs q) (of q))) None ne

  pub noted_count : (qs : List ℕ) (xs : List Entry) → length (noted task cost r qs xs) ≡ length xs
  noted_count [] xs = refl
  noted_count (q ∷ qs) xs = noted_count qs (one xs q) ∙ length-set xs q (Some (lesser (at xs q) (of q)))

  one_lower : (xs : List Entry) (q p : ℕ) → q < length xs → IsAtMost (at (one xs q) p) (at xs p)
  one_lower xs q p h = elim (cases_eq p q) [
    | inl same ↦ subst (λ k. IsAtMost (at (one xs q) k) (at xs k)) (sym same) (subst (λ x. IsAtMost x (at xs q)) (sym (is_one xs q h)) (lesser_left (at xs q) (of q)))
    | inr ne ↦ subst (λ x. IsAtMost x (at xs p)) (sym (is_other xs q p ne)) (at_most_refl (at xs p))
  ]

  pub noted_lower : (qs : List ℕ) (xs : List Entry) (p : ℕ) → All (λ q. q < length xs) qs → IsAtMost (at (noted task cost r qs xs) p) (at xs p)
  noted_lower [] xs p within = at_most_refl (at xs p)
  noted_lower (q ∷ qs) xs p within =
      at_most_trans (at (noted task cost r qs (one xs q)) p) (at (one xs q) p) (at xs p)
      (noted_lower qs (one xs q) p (longer xs q qs (All-tail (λ p. p < length xs) q qs within)))
      (one_lower xs q p (All-head (λ p. p < length xs) q qs within))

  pub noted_all : (qs : List ℕ) (xs : List Entry) (p : ℕ) → All (λ q. q < length xs) qs → has qs p ≡ true → IsAtMost (at (noted task cost r qs xs) p) (Some (of p))
  noted_all [] xs p within h = absurd (false≢true h)
  noted_all (q ∷ qs) xs p within h =
      let rest = longer xs q qs (All-tail (λ p. p < length xs) q qs within) in
      elim (or_cases (eqb q p) (has qs p) h) [
        | inl same ↦ subst (λ k. IsAtMost (at (noted task cost r qs (one xs q)) k) (Some (of k))) (eqb-true q p same)
            (at_most_trans (at (noted task cost r qs (one xs q)) q) (at (one xs q) q) (Some (of q)) (noted_lower qs (one xs q) q rest)
            (subst (λ x. IsAtMost x (Some (of q))) (sym (is_one xs q (All-head (λ p. p < length xs) q qs within))) (lesser_right (at xs q) (of q))))
        | inr later ↦ noted_all qs (one xs q) p rest later
      ]

  pub noted_only : (qs : List ℕ) (xs : List Entry) (p : ℕ) → All (λ q. q < length xs) qs → (at (noted task cost r qs xs) p ≡ at xs p) ⊎ ((has qs p ≡ true) × (at (noted task cost r qs xs) p ≡ Some (of p)))
  noted_only [] xs p within = inl refl
  noted_only (q ∷ qs) xs p within =
      let here : q < length xs = All-head (λ p. p < length xs) q qs within in
      elim (noted_only qs (one xs q) p (longer xs q qs (All-tail (λ p. p < length xs) q qs within))) [
        | inr new ↦ inr (or_right (eqb q p) (has qs p) new.0, new.1)
        | inl same ↦ elim (cases_eq p q) [
          | inr ne ↦ inl (same ∙ is_other xs q p ne)
          | inl i ↦ elim (lesser_either (at xs q) (of q)) [
            | inl first ↦ inl (same ∙ subst (λ k. at (one xs q) k ≡ at xs k) (sym i) (is_one xs q here ∙ first))
            | inr second ↦ inr (or_left (eqb q p) (has qs p) (eq-eqb q p (sym i)), same ∙ subst (λ k. at (one xs q) k ≡ Some (of k)) (sym i) (is_one xs q here ∙ ap (λ k. Some k) second))
          ]
        ]
      ]

pub noted_none : (task : Parts) (entries : ℕ → Entry) (reaches : List Entry) → length reaches ≡ length task.subgoals → All (λ e. e ≡ None) reaches → IsNoted task entries reaches 0
noted_none task entries reaches count none = record {
  count = count;
  least = λ n q r lt at_r h. absurd (omega arith);
  one = λ q lt. inl (none q None (subst (λ k. q < k) (sym count) lt));
}

pub noted_more : (task : Parts) (entries : ℕ → Entry) (before after : List Entry) (n : ℕ) → IsNoted task entries before n → n < length task.steps → after ≡ noted_by task n (reach entries (needs_of task n)) before → IsNoted task entries after (n + 1)
noted_more task entries before after n is there e = subst (λ x. IsNoted task entries x (n + 1)) (sym e) (by (reach entries (needs_of task n)) refl)
  where
    inside : All (λ q. q < length before) (achieved task n)
    inside = subst (λ k. All (λ q. q < k) (achieved task n)) (sym is.count) (achieved_within task n)

    by : (o : Entry) → reach entries (needs_of task n) ≡ o → IsNoted task entries (noted_by task n o before) (n + 1)
    by None off = record {
      count = is.count;
      least = λ m q t lt at_t h. elim (cases_eq m n) [
        | inl same ↦ absurd (none-some t (sym off ∙ subst (λ k. reach entries (needs_of task k) ≡ Some t) same at_t))
        | inr ne ↦ is.least m q t (omega arith) at_t h
      ];
      one = is.one;
    }
    by (Some r) on = record {
      count = noted_count task (cost_of task n) r (achieved task n) before ∙ is.count;
      least = λ m q t lt at_t h. elim (cases_eq m n) [
        | inl same ↦
            let equal : r ≡ t = same_Some r t (sym on ∙ subst (λ k. reach entries (needs_of task k) ≡ Some t) same at_t) in
            subst (λ k. IsAtMost (at (noted task (cost_of task n) r (achieved task n) before) q) (Some (allowed task (cost_of task k) t q))) (sym same)
            (subst (λ v. IsAtMost (at (noted task (cost_of task n) r (achieved task n) before) q) (Some (allowed task (cost_of task n) v q))) equal
            (noted_all task (cost_of task n) r (achieved task n) before q inside (achieved_has task n q ∙ subst (λ k. achieved_by task k q ≡ true) same h)))
        | inr ne ↦ at_most_trans (at (noted task (cost_of task n) r (achieved task n) before) q) (at before q) (Some (allowed task (cost_of task m) t q))
            (noted_lower task (cost_of task n) r (achieved task n) before q inside) (is.least m q t (omega arith) at_t h)
      ];
      one = λ q lt. elim (noted_only task (cost_of task n) r (achieved task n) before q inside) [
        | inr new ↦ inr (n, r, there, on, sym (achieved_has task n q) ∙ new.0, new.1)
        | inl same ↦ elim (is.one q lt) [ inl none ↦ inl (same ∙ none) | inr some ↦ inr (some.0, some.1, some.2, some.3, some.4, same ∙ some.5) ]
      ];
    }

larger_number : (a b : Entry) → is_number (larger a b) ≡ (is_number a && is_number b)
larger_number None b = refl
larger_number (Some m) None = refl
larger_number (Some m) (Some n) = refl

-- a reach is a number where all entries of the needs are
pub numbers_reach : (entries : ℕ → Entry) (qs : List ℕ) → list_all (λ q. is_number (entries q)) qs ≡ is_number (reach entries qs)
numbers_reach entries [] = refl
numbers_reach entries (q ∷ qs) = ap (λ b. is_number (entries q) && b) (numbers_reach entries qs) ∙ sym (larger_number (entries q) (reach entries qs))

pub shares_more : (task : Parts) (s : FlatState) (entries : ℕ → Entry) (units after : List ℕ) (n : ℕ) → IsPaid task s (λ q. is_number (entries q)) units n → n < length task.steps
    → ((u : FlatStep) → slice_get task.steps n ≡ Some u → after ≡ cond (is_number (reach entries u.needs)) (paid task s u (achieved task n) units) units) → IsPaid task s (λ q. is_number (entries q)) after (n + 1)
shares_more task s entries units after n is there e =
    paid_step task s (λ q. is_number (entries q)) units after n is there (λ u found. e u found ∙ ap (λ b. cond b (paid task s u (achieved task n) units) units) (sym (numbers_reach entries u.needs)))
