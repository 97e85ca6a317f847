-- What paying does to units.
use Rattle.std.proofs.Common.{◌≡◌, ◌⊎◌, ℕ, ◌+◌, ◌<◌, ◌≤◌, min, Bool, true, false, cond, eqb, List, [], ◌∷◌, length, set, All, refl, sym, ap, ◌∙◌, subst, inl, inr, arith, Some}
use Rattle.std.specs.Prelude.{slice_get, int_lt, pos}
use Rattle.std.specs.List.{list_all}
use Rattle.std.specs.Option.{option_map_or}
use Rattle.std.proofs.lemmas.Bool.{cases_eq, cases_lt, eq-eqb, eqb-true, or_cases, or_left, or_right, cond-true, both_ways, false≢true}
use Rattle.std.proofs.lemmas.List.{get_or-set_same, get_or-set_other, length-set}
use Rattle.std.proofs.lemmas.List.Elements.{All-head, All-tail, All-weaker}
use Rattle.std.proofs.lemmas.Option.{same_Some, slice_get_within, slice_get_cases}
use Rattle.np_flat.specs.declared.state.FlatState.{FlatState}
use Rattle.np_flat.specs.declared.parts.Subgoal.TheVariants as subgoal
use Rattle.np_flat.specs.declared.parts.FlatStep.{FlatStep}
use Rattle.np_flat.specs.declared.parts.Parts.{Parts}
use Rattle.np_flat.specs.States.{has}
use Rattle.np_flat.specs.Achieving.{net, achieves, achieved_by}
use Rattle.np_relax.specs.Needing.{needs_of}
use Rattle.np_relax.specs.Work.{achieved}
use Rattle.np_relax.proofs.Achieved.{achieved_has, achieved_within}
use Rattle.np_table.specs.Tables.{share}
use Rattle.np_table.specs.Lowering.{capped, unit_at, AreUnits}
use Rattle.np_table.specs.Units.{share_by, paid, IsPaid}

either : (a b : ℕ) → (min a b ≡ a) ⊎ (min a b ≡ b)
either a b = elim (cases_lt a b) [ inl lt ↦ inl (omega arith) | inr ge ↦ inr (omega arith) ]

module _ (task : Parts) (s : FlatState) (u : FlatStep) where
  abbrev of : ℕ → ℕ
  of q = share_by s (slice_get task.subgoals q) u

  abbrev one : List ℕ → ℕ → List ℕ
  one units q = set units q (min (unit_at units q) (of q))

  longer : (units : List ℕ) (q : ℕ) (qs : List ℕ) → All (λ p. p < length units) qs → All (λ p. p < length (one units q)) qs
  longer units q qs all = All-weaker (λ p. p < length units) (λ p. p < length (one units q)) (λ p h. subst (λ k. p < k) (sym (length-set units q (min (unit_at units q) (of q)))) h) qs all

  pub paid_count : (qs units : List ℕ) → length (paid task s u qs units) ≡ length units
  paid_count [] units = refl
  paid_count (q ∷ qs) units = paid_count qs (one units q) ∙ length-set units q (min (unit_at units q) (of q))

  one_lower : (units : List ℕ) (q p : ℕ) → q < length units → unit_at (one units q) p ≤ unit_at units p
  one_lower units q p h = elim (cases_eq p q) [
    | inl same ↦ subst (λ k. unit_at (one units q) k ≤ unit_at units k) (sym same) (let e : unit_at (one units q) q ≡ min (unit_at units q) (of q) = get_or-set_same units q (min (unit_at units q) (of q)) 0 h in omega arith)
    | inr ne ↦ let e : unit_at (one units q) p ≡ unit_at units p = get_or-set_other units q p (min (unit_at units q) (of q)) 0 ne in omega arith
  ]

  pub paid_lower : (qs units : List ℕ) (p : ℕ) → All (λ q. q < length units) qs → unit_at (paid task s u qs units) p ≤ unit_at units p
  paid_lower [] units p within = omega arith
  paid_lower (q ∷ qs) units p within =
      let a = one_lower units q p (All-head (λ p. p < length units) q qs within) in
      let b = paid_lower qs (one units q) p (longer units q qs (All-tail (λ p. p < length units) q qs within)) in
      omega arith

  pub paid_all : (qs units : List ℕ) (p : ℕ) → All (λ q. q < length units) qs → has qs p ≡ true → unit_at (paid task s u qs units) p ≤ of p
  paid_all [] units p within h = absurd (false≢true h)
  paid_all (q ∷ qs) units p within h =
      let rest = longer units q qs (All-tail (λ p. p < length units) q qs within) in
      elim (or_cases (eqb q p) (has qs p) h) [
        | inl same ↦ subst (λ k. unit_at (paid task s u qs (one units q)) k ≤ of k) (eqb-true q p same)
            (let a = paid_lower qs (one units q) q rest in let e : unit_at (one units q) q ≡ min (unit_at units q) (of q) = get_or-set_same units q (min (unit_at units q) (of q)) 0 (All-head (λ p. p < length units) q qs within) in omega arith)
        | inr later ↦ paid_all qs (one units q) p rest later
      ]

  pub paid_only : (qs units : List ℕ) (p : ℕ) → All (λ q. q < length units) qs → (unit_at (paid task s u qs units) p ≡ unit_at units p) ⊎ ((has qs p ≡ true) × (unit_at (paid task s u qs units) p ≡ of p))
  paid_only [] units p within = inl refl
  paid_only (q ∷ qs) units p within =
      let here : q < length units = All-head (λ p. p < length units) q qs within in
      elim (paid_only qs (one units q) p (longer units q qs (All-tail (λ p. p < length units) q qs within))) [
        | inr new ↦ inr (or_right (eqb q p) (has qs p) new.0, new.1)
        | inl same ↦ elim (cases_eq p q) [
          | inr ne ↦ inl (same ∙ get_or-set_other units q p (min (unit_at units q) (of q)) 0 ne)
          | inl i ↦ elim (either (unit_at units q) (of q)) [
            | inl first ↦ inl (same ∙ subst (λ k. unit_at (one units q) k ≡ unit_at units k) (sym i) (get_or-set_same units q (min (unit_at units q) (of q)) 0 here ∙ first))
            | inr second ↦ inr (or_left (eqb q p) (has qs p) (eq-eqb q p (sym i)), same ∙ subst (λ k. unit_at (one units q) k ≡ of k) (sym i) (get_or-set_same units q (min (unit_at units q) (of q)) 0 here ∙ second))
          ]
        ]
      ]

pub paid_more : (task : Parts) (s : FlatState) (can : ℕ → Bool) (units after : List ℕ) (n : ℕ) (u : FlatStep) → IsPaid task s can units n → slice_get task.steps n ≡ Some u
    → after ≡ cond (list_all can u.needs) (paid task s u (achieved task n) units) units → IsPaid task s can after (n + 1)
paid_more task s can units after n u is at e = subst (λ x. IsPaid task s can x (n + 1)) (sym e) (by (list_all can u.needs) refl)
  where
    inside : All (λ q. q < length units) (achieved task n)
    inside = subst (λ k. All (λ q. q < k) (achieved task n)) (sym is.count) (achieved_within task n)

    by : (b : Bool) → list_all can u.needs ≡ b → IsPaid task s can (cond b (paid task s u (achieved task n) units) units) (n + 1)
    by true on = record {
      count = paid_count task s u (achieved task n) units ∙ is.count;
      least = λ m q v lt at_v needs h. elim (cases_eq m n) [
        | inl same ↦ let equal : u ≡ v = same_Some u v (sym at ∙ subst (λ k. slice_get task.steps k ≡ Some v) same at_v) in
            subst (λ w. unit_at (paid task s u (achieved task n) units) q ≤ share_by s (slice_get task.subgoals q) w) equal (paid_all task s u (achieved task n) units q inside (achieved_has task n q ∙ subst (λ k. achieved_by task k q ≡ true) same h))
        | inr ne ↦ let a = paid_lower task s u (achieved task n) units q inside in let b = is.least m q v (omega arith) at_v needs h in omega arith
      ];
      reached = λ q lt. elim (paid_only task s u (achieved task n) units q inside) [
        | inr new ↦ inr (n, u, at, on, sym (achieved_has task n q) ∙ new.0, new.1)
        | inl same ↦ elim (is.reached q lt) [ inl most ↦ inl (same ∙ most) | inr some ↦ inr (some.0, some.1, some.2, some.3, some.4, same ∙ some.5) ]
      ];
    }
    by false off = record {
      count = is.count;
      least = λ m q v lt at_v needs h. elim (cases_eq m n) [
        | inl same ↦ let equal : u ≡ v = same_Some u v (sym at ∙ subst (λ k. slice_get task.steps k ≡ Some v) same at_v) in
            absurd (both_ways (list_all can u.needs) off (subst (λ w. list_all can w.needs ≡ true) (sym equal) needs))
        | inr ne ↦ is.least m q v (omega arith) at_v needs h
      ];
      reached = is.reached;
    }

pub all_paid : (task : Parts) (s : FlatState) (can : ℕ → Bool) (units : List ℕ) (n : ℕ) → n ≡ length task.steps → IsPaid task s can units n → AreUnits task s can units
all_paid task s can units n every is = record {
  least = λ q m form u of late at needs by.
      let raises : achieved_by task m q ≡ true = ap (λ x. option_map_or (λ (y : FlatStep). option_map_or (achieves y) (slice_get task.subgoals q) false) x false) at ∙ ap (λ x. option_map_or (achieves u) x false) of ∙ by in
      let le = is.least m q u (subst (λ k. m < k) (sym every) (slice_get_within task.steps m u at)) at needs raises in
      let e : share_by s (slice_get task.subgoals q) u ≡ capped (share s form u) = ap (λ x. share_by s x u) of ∙ cond-true (int_lt (pos 0) (net u form)) (capped (share s form u)) 4611686018427387903 by in
      omega arith;
  reached = λ q form of late. elim (is.reached q (slice_get_within task.subgoals q (subgoal.Form form) of)) [
    | inl most ↦ inl (omega arith)
    | inr some ↦
        let raised : achieves some.1 (subgoal.Form form) ≡ true = sym (ap (λ x. option_map_or (λ (y : FlatStep). option_map_or (achieves y) (slice_get task.subgoals q) false) x false) some.2 ∙ ap (λ x. option_map_or (achieves some.1) x false) of) ∙ some.4 in
        let e : share_by s (slice_get task.subgoals q) some.1 ≡ capped (share s form some.1) = ap (λ x. share_by s x some.1) of ∙ cond-true (int_lt (pos 0) (net some.1 form)) (capped (share s form some.1)) 4611686018427387903 raised in
        let same : unit_at units q ≡ share_by s (slice_get task.subgoals q) some.1 = some.5 in
        elim (cases_lt (share s form some.1) 4611686018427387903) [
          | inl small ↦ inr (some.0, some.1, some.2, some.3, raised, omega arith)
          | inr big ↦ inl (omega arith)
        ]
  ];
}

pub paid_none : (task : Parts) (s : FlatState) (can : ℕ → Bool) (units : List ℕ) → length units ≡ length task.subgoals → All (λ u. u ≡ 4611686018427387903) units → IsPaid task s can units 0
paid_none task s can units count most = record {
  count = count;
  least = λ n q u lt at needs h. absurd (omega arith);
  reached = λ q lt. inl (most q 0 (subst (λ k. q < k) (sym count) lt));
}

pub paid_step : (task : Parts) (s : FlatState) (can : ℕ → Bool) (units after : List ℕ) (n : ℕ) → IsPaid task s can units n → n < length task.steps
    → ((u : FlatStep) → slice_get task.steps n ≡ Some u → after ≡ cond (list_all can u.needs) (paid task s u (achieved task n) units) units) → IsPaid task s can after (n + 1)
paid_step task s can units after n is lt e =
    elim ((slice_get_cases task.steps n).1) [
      | inl found ↦ paid_more task s can units after n found.0 is found.2 (e found.0 found.2)
      | inr past ↦ absurd (below lt past.0)
    ]
  where
    below : n < length task.steps → length task.steps ≤ n → ⊥
    below h k = omega arith

-- what was paid by the step that is found, where all its needs are in the set
pub paid_is : (task : Parts) (s : FlatState) (can : ℕ → Bool) (n : ℕ) (u taken : FlatStep) (needs numbers units after : List ℕ) (b : Bool) → slice_get task.steps n ≡ Some u → slice_get task.steps n ≡ Some taken → after ≡ paid task s taken numbers units
    → numbers ≡ achieved task n → needs ≡ needs_of task n → b ≡ list_all can needs → b ≡ true → after ≡ cond (list_all can u.needs) (paid task s u (achieved task n) units) units
paid_is task s can n u taken needs numbers units after b at found by are need test on =
    by ∙ ap (λ xs. paid task s taken xs units) are
    ∙ ap (λ v. paid task s v (achieved task n) units) (same_Some taken u (sym found ∙ at))
    ∙ sym (cond-true (list_all can u.needs) (paid task s u (achieved task n) units) units (sym (ap (list_all can) (need ∙ ap (λ o. option_map_or (λ (x : FlatStep). x.needs) o []) at)) ∙ sym test ∙ on))
