-- What turning on does: all that is on stays on, what is new waits, and the steps that were looked at are done.
use Rattle.std.proofs.Common.{◌≡◌, ◌⊎◌, ℕ, zero, suc, ◌+◌, ◌<◌, ◌≤◌, Bool, true, false, not, ◌||◌, cond, eqb, List, [], ◌∷◌, ◌++◌, length, set, get_or, drop, add-one, drop-cons, All, refl, sym, ap, ◌∙◌, subst, inl, inr, arith, Some}
use Rattle.std.specs.Prelude.{slice_get}
use Rattle.std.specs.List.{list_all}
use Rattle.std.specs.Option.{option_map_or}
use Rattle.std.proofs.lemmas.Bool.{cases_eq, cases_lt, cases_Bool, eq-eqb, ne_eqb, eqb-true, or_cases, or_left, or_right, or_from, and_parts, and_from, and_cases, cond_both, both_ways, not-true, not-false, false_from_ne_true, false≢true}
use Rattle.std.proofs.lemmas.List.{get_or-set_same, get_or-set_other, length-set, length-append, get_or_past}
use Rattle.std.proofs.lemmas.List.Elements.{All-nil, All-head, All-tail, All-push, All-pop, All-weaker}
use Rattle.std.proofs.lemmas.List.Folds.{list_any-append}
use Rattle.std.proofs.lemmas.Option.{slice_get_within, get_or_from_slice_get}
use Rattle.np_flat.specs.declared.state.FlatState.{FlatState}
use Rattle.np_flat.specs.declared.parts.FlatStep.{FlatStep}
use Rattle.np_flat.specs.declared.parts.Parts.{Parts}
use Rattle.np_flat.specs.States.{has, holds, subgoal_holds}
use Rattle.np_flat.specs.Achieving.{achieves_at}
use Rattle.np_relax.specs.Closed.{IsClosed, IsLeast, on}
use Rattle.np_relax.specs.Needing.{needs_of}
use Rattle.np_relax.specs.Work.{achieved, turned, fires, fired, handled, off, IsDone, IsGoing}
use Rattle.np_relax.proofs.Closes.{map_or_true, all_weaker, by_step}
use Rattle.np_relax.proofs.Achieved.{achieved_has, achieved_within}

pub record Grown (can : List Bool) (work : List ℕ) (after : List Bool × List ℕ) : Type 0 where
  pub count : length after.0 ≡ length can
  pub kept : (q : ℕ) → on can q ≡ true → on after.0 q ≡ true
  pub waits : (q : ℕ) → on after.0 q ≡ true → (on can q ≡ true) ⊎ (has after.1 q ≡ true)
  pub stays : (q : ℕ) → has work q ≡ true → has after.1 q ≡ true
  pub fewer : off after.0 + off after.0 + length after.1 ≤ off can + off can + length work

pub grown_self : (can : List Bool) (work : List ℕ) → Grown can work (can, work)
grown_self can work = record { count = refl; kept = λ q h. h; waits = λ q h. inl h; stays = λ q h. h; fewer = omega arith }

pub grown_then : (can : List Bool) (work : List ℕ) (mid end : List Bool × List ℕ) → Grown can work mid → Grown mid.0 mid.1 end → Grown can work end
grown_then can work mid end a b = record {
  count = b.count ∙ a.count;
  kept = λ q h. b.kept q (a.kept q h);
  waits = λ q h. elim (b.waits q h) [ inl before ↦ elim (a.waits q before) [ inl start ↦ inl start | inr there ↦ inr (b.stays q there) ] | inr there ↦ inr there ];
  stays = λ q h. b.stays q (a.stays q h);
  fewer = less a.fewer b.fewer;
}
  where
    less : {x y z : ℕ} → y ≤ x → z ≤ y → z ≤ x
    less h k = omega arith

off_set : (can : List Bool) (q : ℕ) → on can q ≡ false → q < length can → off (set can q true) + 1 ≡ off can
off_set [] q e h = absurd (omega arith)
off_set (true ∷ bs) zero e h = absurd (false≢true (sym e))
off_set (false ∷ bs) zero e h = omega arith
off_set (b ∷ bs) (suc q) e h = let rest = off_set bs q e (omega arith) in omega arith

pub has_push : (work : List ℕ) (q p : ℕ) → has (work ++ q ∷ []) p ≡ (has work p || has (q ∷ []) p)
has_push work q p = list_any-append (λ m. eqb m p) work (q ∷ [])

grown_one : (can : List Bool) (work : List ℕ) (q : ℕ) → on can q ≡ false → q < length can → Grown can work (set can q true, work ++ q ∷ [])
grown_one can work q e h = record {
  count = length-set can q true;
  kept = λ p i. elim (cases_eq p q) [
    | inl same ↦ subst (λ k. on (set can q true) k ≡ true) (sym same) (get_or-set_same can q true false h)
    | inr ne ↦ get_or-set_other can q p true false ne ∙ i
  ];
  waits = λ p i. elim (cases_eq p q) [
    | inl same ↦ inr (has_push work q p ∙ or_right (has work p) (has (q ∷ []) p) (or_left (eqb q p) false (eq-eqb q p (sym same))))
    | inr ne ↦ inl (sym (get_or-set_other can q p true false ne) ∙ i)
  ];
  stays = λ p i. has_push work q p ∙ or_left (has work p) (has (q ∷ []) p) i;
  fewer = omega (arith, off_set can q e h, length-append work (q ∷ []));
}

pub turned_grown : (qs : List ℕ) (can : List Bool) (work : List ℕ) → All (λ q. q < length can) qs → Grown can work (turned qs can work)
turned_grown [] can work within = grown_self can work
turned_grown (q ∷ qs) can work within =
    let rest : All (λ p. p < length can) qs = All-tail (λ p. p < length can) q qs within in
    cond_both (on can q) (turned qs can work) (turned qs (set can q true) (work ++ q ∷ [])) (Grown can work)
    (λ e. turned_grown qs can work rest)
    (λ e. grown_then can work (set can q true, work ++ q ∷ []) (turned qs (set can q true) (work ++ q ∷ []))
    (grown_one can work q e (All-head (λ p. p < length can) q qs within))
    (turned_grown qs (set can q true) (work ++ q ∷ []) (All-weaker (λ p. p < length can) (λ p. p < length (set can q true)) (λ p h. subst (λ k. p < k) (sym (length-set can q true)) h) qs rest)))

pub turned_all : (qs : List ℕ) (can : List Bool) (work : List ℕ) → All (λ q. q < length can) qs → (p : ℕ) → has qs p ≡ true → on (turned qs can work).0 p ≡ true
turned_all [] can work within p h = absurd (false≢true h)
turned_all (q ∷ qs) can work within p h =
    let rest : All (λ p. p < length can) qs = All-tail (λ p. p < length can) q qs within in
    let here : q < length can = All-head (λ p. p < length can) q qs within in
    let more : All (λ p. p < length (set can q true)) qs = All-weaker (λ p. p < length can) (λ p. p < length (set can q true)) (λ p h. subst (λ k. p < k) (sym (length-set can q true)) h) qs rest in
    cond_both (on can q) (turned qs can work) (turned qs (set can q true) (work ++ q ∷ [])) (λ r. on r.0 p ≡ true)
    (λ e. elim (or_cases (eqb q p) (has qs p) h) [
      | inl same ↦ (turned_grown qs can work rest).kept p (subst (λ k. on can k ≡ true) (eqb-true q p same) e)
      | inr later ↦ turned_all qs can work rest p later
    ])
    (λ e. elim (or_cases (eqb q p) (has qs p) h) [
      | inl same ↦ (turned_grown qs (set can q true) (work ++ q ∷ []) more).kept p (subst (λ k. on (set can q true) k ≡ true) (eqb-true q p same) (get_or-set_same can q true false here))
      | inr later ↦ turned_all qs (set can q true) (work ++ q ∷ []) more p later
    ])

pub turned_only : (qs : List ℕ) (can : List Bool) (work : List ℕ) (p : ℕ) → on (turned qs can work).0 p ≡ true → (on can p ≡ true) ⊎ (has qs p ≡ true)
turned_only [] can work p h = inl h
turned_only (q ∷ qs) can work p h =
    cond_both (on can q) (turned qs can work) (turned qs (set can q true) (work ++ q ∷ [])) (λ r. on r.0 p ≡ true → (on can p ≡ true) ⊎ (has (q ∷ qs) p ≡ true))
    (λ e i. elim (turned_only qs can work p i) [ inl before ↦ inl before | inr new ↦ inr (or_right (eqb q p) (has qs p) new) ])
    (λ e i. elim (turned_only qs (set can q true) (work ++ q ∷ []) p i) [
      | inl before ↦ elim (cases_eq p q) [
        | inl same ↦ inr (or_left (eqb q p) (has qs p) (eq-eqb q p (sym same)))
        | inr ne ↦ inl (sym (get_or-set_other can q p true false ne) ∙ before)
      ]
      | inr new ↦ inr (or_right (eqb q p) (has qs p) new)
    ]) h

pub turned_within : (m : ℕ) (qs : List ℕ) (can : List Bool) (work : List ℕ) → All (λ q. q < m) qs → All (λ q. q < m) work → All (λ q. q < m) (turned qs can work).1
turned_within m [] can work within all = all
turned_within m (q ∷ qs) can work within all =
    let rest : All (λ p. p < m) qs = All-tail (λ p. p < m) q qs within in
    cond_both (on can q) (turned qs can work) (turned qs (set can q true) (work ++ q ∷ [])) (λ r. All (λ q. q < m) r.1)
    (λ e. turned_within m qs can work rest all)
    (λ e. turned_within m qs (set can q true) (work ++ q ∷ []) rest (All-push (λ p. p < m) work q all (All-head (λ p. p < m) q qs within)))

pub all_on : (can : List Bool) (xs : List ℕ) → ((q : ℕ) → has xs q ≡ true → on can q ≡ true) → list_all (on can) xs ≡ true
all_on can [] h = refl
all_on can (x ∷ xs) h =
    and_from (on can x) (list_all (on can) xs) (h x (or_left (eqb x x) (has xs x) (eq-eqb x x refl)))
    (all_on can xs (λ q i. h q (or_right (eqb x q) (has xs q) i)))

module _ (task : Parts) (removed : List Bool) where
  step_within : (can : List Bool) (n : ℕ) → length can ≡ length task.subgoals → All (λ q. q < length can) (achieved task n)
  step_within can n e = subst (λ k. All (λ q. q < k) (achieved task n)) (sym e) (achieved_within task n)

  pub fired_grown : (n : ℕ) (can : List Bool) (work : List ℕ) → length can ≡ length task.subgoals → Grown can work (fired task removed n can work)
  fired_grown n can work e =
      cond_both (fires task removed can n) (turned (achieved task n) can work) (can, work) (Grown can work)
      (λ f. turned_grown (achieved task n) can work (step_within can n e))
      (λ f. grown_self can work)

  pub fired_within : (n : ℕ) (can : List Bool) (work : List ℕ) → All (λ q. q < length task.subgoals) work → All (λ q. q < length task.subgoals) (fired task removed n can work).1
  fired_within n can work all =
      cond_both (fires task removed can n) (turned (achieved task n) can work) (can, work) (λ r. All (λ q. q < length task.subgoals) r.1)
      (λ f. turned_within (length task.subgoals) (achieved task n) can work (achieved_within task n) all)
      (λ f. all)

  -- the step is done
  pub fired_done : (n : ℕ) (can : List Bool) (work : List ℕ) → length can ≡ length task.subgoals → IsDone task removed n (fired task removed n can work).0 (fired task removed n can work).1
  fired_done n can work e =
      cond_both (fires task removed can n) (turned (achieved task n) can work) (can, work) (λ r. IsDone task removed n r.0 r.1)
      (λ f stays needs q h. turned_all (achieved task n) can work (step_within can n e) q (achieved_has task n q ∙ h))
      (λ f stays needs q h. absurd (elim (and_cases (not (on removed n)) (list_all (on can) (needs_of task n)) f) [
        | inl gone ↦ both_ways (on removed n) stays (not-false (on removed n) gone)
        | inr lacks ↦ both_ways (list_all (on can) (needs_of task n)) lacks (all_on can (needs_of task n) (λ p i. (needs p i).0))
      ]))

  -- and stays so
  pub done_grows : (n : ℕ) (can : List Bool) (work : List ℕ) (after : List Bool × List ℕ) → Grown can work after → IsDone task removed n can work → IsDone task removed n after.0 after.1
  done_grows n can work after grown done stays needs q h =
      grown.kept q (done stays (λ p i. (elim (grown.waits p (needs p i).0) [ inl before ↦ before | inr there ↦ absurd (both_ways (has after.1 p) (needs p i).1 there) ], false_from_ne_true (has work p) (λ there. both_ways (has after.1 p) (needs p i).1 (grown.stays p there)))) q h)

  pub handled_grown : (ns : List ℕ) (can : List Bool) (work : List ℕ) → length can ≡ length task.subgoals → Grown can work (handled task removed ns can work)
  handled_grown [] can work e = grown_self can work
  handled_grown (n ∷ ns) can work e =
      let next = fired task removed n can work in
      let here : Grown can work next = fired_grown n can work e in
      grown_then can work next (handled task removed ns next.0 next.1) here (handled_grown ns next.0 next.1 (here.count ∙ e))

  pub handled_within : (ns : List ℕ) (can : List Bool) (work : List ℕ) → All (λ q. q < length task.subgoals) work → All (λ q. q < length task.subgoals) (handled task removed ns can work).1
  handled_within [] can work all = all
  handled_within (n ∷ ns) can work all =
      let next = fired task removed n can work in handled_within ns next.0 next.1 (fired_within n can work all)

  pub handled_done : (ns : List ℕ) (can : List Bool) (work : List ℕ) → length can ≡ length task.subgoals → (n : ℕ) → has ns n ≡ true
      → IsDone task removed n (handled task removed ns can work).0 (handled task removed ns can work).1
  handled_done [] can work e n h = absurd (false≢true h)
  handled_done (m ∷ ns) can work e n h =
      let next = fired task removed m can work in
      let count : length next.0 ≡ length task.subgoals = (fired_grown m can work e).count ∙ e in
      elim (or_cases (eqb m n) (has ns n) h) [
        | inl same ↦ done_grows n next.0 next.1 (handled task removed ns next.0 next.1) (handled_grown ns next.0 next.1 count)
            (subst (λ k. IsDone task removed k next.0 next.1) (eqb-true m n same) (fired_done m can work e))
        | inr later ↦ handled_done ns next.0 next.1 count n later
      ]

  module _ (s : FlatState) (others : ℕ → Bool) (closed : IsClosed task s (on removed) others) where
    pub fired_inside : (n : ℕ) (can : List Bool) (work : List ℕ) → ((q : ℕ) → on can q ≡ true → others q ≡ true) → (q : ℕ) → on (fired task removed n can work).0 q ≡ true → others q ≡ true
    fired_inside n can work inside q =
        cond_both (fires task removed can n) (turned (achieved task n) can work) (can, work) (λ r. on r.0 q ≡ true → others q ≡ true)
        (λ f h. elim (turned_only (achieved task n) can work q h) [
          | inl before ↦ inside q before
          | inr new ↦
              let parts = and_parts (not (on removed n)) (list_all (on can) (needs_of task n)) f in
              let step = map_or_true (λ step. achieves_at task step q) (slice_get task.steps n) (sym (achieved_has task n q) ∙ new) in
              let needs : needs_of task n ≡ step.0.needs = ap (λ o. option_map_or (λ (x : FlatStep). x.needs) o []) step.1 in
              closed.achieved n q step.0 step.1 (not-true (on removed n) parts.0)
              (all_weaker (on can) others inside step.0.needs (subst (λ xs. list_all (on can) xs ≡ true) needs parts.1)) step.2
        ])
        (λ f h. inside q h)

    pub handled_inside : (ns : List ℕ) (can : List Bool) (work : List ℕ) → ((q : ℕ) → on can q ≡ true → others q ≡ true) → (q : ℕ) → on (handled task removed ns can work).0 q ≡ true → others q ≡ true
    handled_inside [] can work inside q h = inside q h
    handled_inside (n ∷ ns) can work inside q h =
        let next = fired task removed n can work in handled_inside ns next.0 next.1 (fired_inside n can work inside) q h

-- one more step at the start
pub started : (task : Parts) (s : FlatState) (removed can : List Bool) (work : List ℕ) (n : ℕ) (after : List Bool × List ℕ) → IsGoing task s removed can work n
    → after ≡ fired task removed n can work → IsGoing task s removed after.0 after.1 (n + 1)
started task s removed can work n after going e = subst (λ r. IsGoing task s removed r.0 r.1 (n + 1)) (sym e) record {
  count = (fired_grown task removed n can work going.count).count ∙ going.count;
  within = fired_within task removed n can work going.within;
  inside = λ others closed. fired_inside task removed s others closed n can work (going.inside others closed);
  true_ones = λ q h. (fired_grown task removed n can work going.count).kept q (going.true_ones q h);
  done = λ m lt. elim (cases_eq m n) [
    | inl same ↦ subst (λ k. IsDone task removed k (fired task removed n can work).0 (fired task removed n can work).1) (sym same) (fired_done task removed n can work going.count)
    | inr ne ↦ done_grows task removed m can work (fired task removed n can work) (fired_grown task removed n can work going.count) (going.done m (omega arith))
  ];
}

-- one more subgoal
pub gone_on : (task : Parts) (s : FlatState) (removed can : List Bool) (all work rowed : List ℕ) (q n : ℕ) (after : List Bool × List ℕ) → ((m : ℕ) → m < n → has (needs_of task m) q ≡ true → has rowed m ≡ true) → IsGoing task s removed can all n
    → all ≡ work ++ q ∷ [] → after ≡ handled task removed rowed can work → IsGoing task s removed after.0 after.1 n
gone_on task s removed can all work rowed q n after each going split e = subst (λ r. IsGoing task s removed r.0 r.1 n) (sym e) record {
  count = grown.count ∙ going.count;
  within = handled_within task removed rowed can work fewer_within;
  inside = λ others closed. handled_inside task removed s others closed rowed can work (going.inside others closed);
  true_ones = λ p h. grown.kept p (going.true_ones p h);
  done = λ m lt. elim (cases_Bool (has (needs_of task m) q)) [
    | inl needed ↦ handled_done task removed rowed can work going.count m (each m lt needed)
    | inr out ↦ λ stays needs p h. grown.kept p (going.done m lt stays (λ d i. (before d (needs d i).0 (needs d i).1, waits_not m d out i (needs d i).1)) p h)
  ];
}
  where
    grown : Grown can work (handled task removed rowed can work)
    grown = handled_grown task removed rowed can work going.count

    fewer_within : All (λ p. p < length task.subgoals) work
    fewer_within = (All-pop (λ p. p < length task.subgoals) all work (Some q) split going.within).0

    before : (d : ℕ) → on (handled task removed rowed can work).0 d ≡ true → has (handled task removed rowed can work).1 d ≡ false → on can d ≡ true
    before d h out = elim (grown.waits d h) [ inl there ↦ there | inr late ↦ absurd (both_ways (has (handled task removed rowed can work).1 d) out late) ]

    waits_not : (m d : ℕ) → has (needs_of task m) q ≡ false → has (needs_of task m) d ≡ true → has (handled task removed rowed can work).1 d ≡ false → has all d ≡ false
    waits_not m d out i gone =
        rw split (has_push work q d
        ∙ or_from (has work d) (eqb q d || false) (false_from_ne_true (has work d) (λ there. both_ways (has (handled task removed rowed can work).1 d) gone (grown.stays d there)))
        (or_from (eqb q d) false (ne_eqb q d (λ same. both_ways (has (needs_of task m) d) (subst (λ k. has (needs_of task m) k ≡ false) same out) i)) refl))

pub has_all : (p : ℕ → Bool) (xs : List ℕ) → list_all p xs ≡ true → (q : ℕ) → has xs q ≡ true → p q ≡ true
has_all p [] h q i = absurd (false≢true i)
has_all p (x ∷ xs) h q i =
    let parts = and_parts (p x) (list_all p xs) h in
    elim (or_cases (eqb x q) (has xs q) i) [
      | inl same ↦ subst (λ k. p k ≡ true) (eqb-true x q same) parts.0
      | inr later ↦ has_all p xs parts.1 q later
    ]

-- where nothing waits, it is the least set
pub ended : (task : Parts) (s : FlatState) (removed can : List Bool) (work : List ℕ) (n : ℕ) → n ≡ length task.steps → work ≡ [] → IsGoing task s removed can work n → IsLeast task s (on removed) (on can)
ended task s removed can work n every none going = record {
  closed = record {
    true_ones = going.true_ones;
    achieved = λ m q step at stays needs by.
        going.done m (subst (λ k. m < k) (sym every) (slice_get_within task.steps m step at)) stays
        (λ d i. (has_all (on can) step.needs needs d (sym (ap (λ o. has (option_map_or (λ (x : FlatStep). x.needs) o []) d) at) ∙ i), ap (λ w. has w d) none))
        q (by_step task m q step at ∙ by);
  };
  least = λ others closed q h. going.inside others closed q h;
}

-- one step of a list more
pub handle_more : (task : Parts) (removed : List Bool) (ns : List ℕ) (i d : ℕ) (can : List Bool) (work : List ℕ) (after : List Bool × List ℕ) → i < length ns → after ≡ fired task removed (get_or ns i d) can work
    → handled task removed (drop i ns) can work ≡ handled task removed (drop (i + 1) ns) after.0 after.1
handle_more task removed ns i d can work after h e = rw (add-one, drop-cons ns i d h, e) refl

-- nothing is done at first
pub begun : (task : Parts) (s : FlatState) (removed can : List Bool) (work : List ℕ) → length can ≡ length task.subgoals → ((q : ℕ) → q < length task.subgoals → on can q ≡ holds task s q) → work ≡ [] → IsGoing task s removed can work 0
begun task s removed can work count held none = record {
  count = count;
  within = subst (All (λ q. q < length task.subgoals)) (sym none) (All-nil (λ q. q < length task.subgoals));
  inside = λ others closed q h. closed.true_ones q (elim (cases_lt q (length task.subgoals)) [
    | inl lt ↦ sym (held q lt) ∙ h
    | inr ge ↦ absurd (both_ways (on can q) (get_or_past can q false (subst (λ k. k ≤ q) (sym count) ge)) h)
  ]);
  true_ones = λ q h. held q (in_range q h) ∙ h;
  done = λ n lt. absurd (omega arith);
}
  where
    in_range : (q : ℕ) → holds task s q ≡ true → q < length task.subgoals
    in_range q h = let at = map_or_true (subgoal_holds s) (slice_get task.subgoals q) h in slice_get_within task.subgoals q at.0 at.1

pub popped_within : (task : Parts) (s : FlatState) (removed can : List Bool) (all work : List ℕ) (q n : ℕ) → IsGoing task s removed can all n → all ≡ work ++ q ∷ [] → q < length task.subgoals
popped_within task s removed can all work q n going e = (All-pop (λ p. p < length task.subgoals) all work (Some q) e going.within).1

pub popped_less : (task : Parts) (removed can : List Bool) (all work rowed : List ℕ) (q : ℕ) (after : List Bool × List ℕ) → length can ≡ length task.subgoals → all ≡ work ++ q ∷ []
    → after ≡ handled task removed rowed can work → off after.0 + off after.0 + length after.1 < off can + off can + length all
popped_less task removed can all work rowed q after count split e =
    subst (λ r. off r.0 + off r.0 + length r.1 < off can + off can + length all) (sym e)
    (less _ (off can + off can) (length work) (length all) (handled_grown task removed rowed can work count).fewer (ap length split ∙ length-append work (q ∷ [])))
  where
    less : (x y z w : ℕ) → x ≤ y + z → w ≡ z + 1 → x < y + w
    less x y z w h k = omega arith

pub none_left : (xs : List ℕ) → length xs ≡ 0 → xs ≡ []
none_left [] e = refl
none_left (x ∷ xs) e = absurd (omega arith)

-- what a step that fires makes of a list of what it achieves
pub fired_is : (task : Parts) (removed can : List Bool) (work numbers : List ℕ) (n : ℕ) → numbers ≡ achieved task n → fires task removed can n ≡ true → turned numbers can work ≡ fired task removed n can work
fired_is task removed can work numbers n is h =
    ap (λ xs. turned xs can work) is ∙ sym (ap (λ b. cond b (turned (achieved task n) can work) (can, work)) h)

pub fires_if : (task : Parts) (removed can shown : List Bool) (needs : List ℕ) (n : ℕ) (out all : Bool) → slice_get removed n ≡ Some out → out ≡ false → shown ≡ can → needs ≡ needs_of task n → all ≡ list_all (on shown) needs → all ≡ true → fires task removed can n ≡ true
fires_if task removed can shown needs n out all at off same are is on_all =
    and_from (not (on removed n)) (list_all (on can) (needs_of task n))
    (ap not (get_or_from_slice_get removed n out false at ∙ off))
    (sym (ap (λ bs. list_all (on bs) (needs_of task n)) same) ∙ sym (ap (λ xs. list_all (on shown) xs) are) ∙ sym is ∙ on_all)
