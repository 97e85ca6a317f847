-- What lowering does: entries only fall, what fell waits, and the steps that were looked at are settled.
use Rattle.std.proofs.Common.{◌≡◌, ◌⊎◌, ℕ, zero, suc, ◌+◌, ◌<◌, ◌≤◌, Bool, true, false, cond, eqb, List, [], ◌∷◌, length, set, get_or, drop, add-one, drop-cons, All, refl, sym, ap, ◌∙◌, subst, inl, inr, arith, Some, None}
use Rattle.std.specs.Prelude.{slice_get, is_some, replicate}
use Rattle.std.specs.List.{list_all}
use Rattle.std.specs.Option.{option_map_or}
use Rattle.std.proofs.lemmas.Bool.{cases_eq, cases_lt, cases_Bool, eq-eqb, eqb-true, or_cases, or_left, or_right, and_from, cond_both, both_ways, false_from_ne_true, false≢true}
use Rattle.std.proofs.lemmas.List.{get_or-set_same, get_or-set_other, length-set, get_or_past}
use Rattle.std.proofs.lemmas.List.Elements.{All-nil, All-head, All-tail, All-push, All-weaker}
use Rattle.std.proofs.lemmas.Option.{slice_get_within, same_Some}
use Rattle.np_flat.specs.declared.state.FlatState.{FlatState}
use Rattle.np_flat.specs.declared.parts.Subgoal.{Subgoal}
use Rattle.np_flat.specs.declared.parts.Subgoal.TheVariants as subgoal
use Rattle.np_flat.specs.declared.parts.FlatStep.{FlatStep}
use Rattle.np_flat.specs.declared.parts.Parts.{Parts}
use Rattle.np_flat.specs.States.{has, holds, subgoal_holds}
use Rattle.np_flat.specs.Plans.{cost_of}
use Rattle.np_flat.specs.Achieving.{achieves, achieved_by}
use Rattle.np_relax.specs.Closed.{IsClosed, IsLeast, on}
use Rattle.np_relax.specs.Needing.{needs_of}
use Rattle.np_relax.specs.Work.{achieved}
use Rattle.np_relax.proofs.Achieved.{achieved_has, achieved_within}
use Rattle.np_relax.proofs.Closes.{map_or_true}
use Rattle.np_relax.proofs.Works.{has_all}
use Rattle.np_table.specs.Tables.{Entry, IsAtMost, reach, share, Achiever, IsEntry, IsTable, IsGreatest, at}
use Rattle.np_table.specs.Lowering.{unit_at, capped, weight_by, weight, is_below, lowered, settled_by, settled, all_settled, height, AreUnits, IsSettled, IsFalling}
use Rattle.np_table.proofs.Orders.{at_most_refl, at_most_trans, at_most_zero, at_most_number, below_at_most, not_below_at_most, below_height, reach_mono, reach_same, reach_numbers, numbers_reach}

pub record Fallen (entries : List Entry) (work : List Bool) (after : List Entry × List Bool) : Type 0 where
  pub count : length after.0 ≡ length entries
  pub lower : (q : ℕ) → IsAtMost (at after.0 q) (at entries q)
  pub waits : (q : ℕ) → (at after.0 q ≡ at entries q) ⊎ (on after.1 q ≡ true)
  pub stays : (q : ℕ) → on work q ≡ true → on after.1 q ≡ true
  pub marked : length after.1 ≡ length work

pub fallen_self : (entries : List Entry) (work : List Bool) → Fallen entries work (entries, work)
fallen_self entries work = record { count = refl; lower = λ q. at_most_refl (at entries q); waits = λ q. inl refl; stays = λ q h. h; marked = refl }

pub fallen_then : (entries : List Entry) (work : List Bool) (mid end : List Entry × List Bool) → Fallen entries work mid → Fallen mid.0 mid.1 end → Fallen entries work end
fallen_then entries work mid end a b = record {
  count = b.count ∙ a.count;
  lower = λ q. at_most_trans (at end.0 q) (at mid.0 q) (at entries q) (b.lower q) (a.lower q);
  waits = λ q. elim (b.waits q) [ inl same ↦ elim (a.waits q) [ inl before ↦ inl (same ∙ before) | inr there ↦ inr (b.stays q there) ] | inr there ↦ inr there ];
  stays = λ q h. b.stays q (a.stays q h);
  marked = b.marked ∙ a.marked;
}

pub height_set : (entries : List Entry) (q m : ℕ) → is_below m (at entries q) ≡ true → m < 4611686018427387904 → q < length entries → height (set entries q (Some m)) + 1 ≤ height entries
height_set [] q m e k h = absurd (omega arith)
height_set (x ∷ xs) zero m e k h = omega (arith, below_height m x e k)
height_set (x ∷ xs) (suc q) m e k h = let rest = height_set xs q m e k (omega arith) in omega arith

fallen_one : (entries : List Entry) (work : List Bool) (q m : ℕ) → is_below m (at entries q) ≡ true → q < length entries → q < length work → Fallen entries work (set entries q (Some m), set work q true)
fallen_one entries work q m e h j = record {
  count = length-set entries q (Some m);
  lower = λ p. elim (cases_eq p q) [
    | inl same ↦ subst (λ i. IsAtMost (at (set entries q (Some m)) i) (at entries i)) (sym same) (subst (λ x. IsAtMost x (at entries q)) (sym (get_or-set_same entries q (Some m) None h)) (below_at_most m (at entries q) e))
    | inr ne ↦ subst (λ x. IsAtMost x (at entries p)) (sym (get_or-set_other entries q p (Some m) None ne)) (at_most_refl (at entries p))
  ];
  waits = λ p. elim (cases_eq p q) [
    | inl same ↦ inr (subst (λ i. on (set work q true) i ≡ true) (sym same) (get_or-set_same work q true false j))
    | inr ne ↦ inl (get_or-set_other entries q p (Some m) None ne)
  ];
  stays = λ p i. elim (cases_eq p q) [
    | inl same ↦ subst (λ i. on (set work q true) i ≡ true) (sym same) (get_or-set_same work q true false j)
    | inr ne ↦ get_or-set_other work q p true false ne ∙ i
  ];
  marked = length-set work q true;
}

pub cap_small : (n : ℕ) → capped n < 4611686018427387904
cap_small n = omega arith

cap_below : (n : ℕ) → capped n ≤ n
cap_below n = omega arith

module _ (task : Parts) (units : List ℕ) (n r : ℕ) where
  abbrev to : ℕ → ℕ
  to q = capped (weight task units n q + r)

  longer : (entries : List Entry) (q : ℕ) (qs : List ℕ) → All (λ p. p < length entries) qs → All (λ p. p < length (set entries q (Some (to q)))) qs
  longer entries q qs all = All-weaker (λ p. p < length entries) (λ p. p < length (set entries q (Some (to q)))) (λ p h. subst (λ k. p < k) (sym (length-set entries q (Some (to q)))) h) qs all

  still : (entries : List Entry) (work : List Bool) (q : ℕ) → length work ≡ length entries → length (set work q true) ≡ length (set entries q (Some (to q)))
  still entries work q as_many = length-set work q true ∙ as_many ∙ sym (length-set entries q (Some (to q)))

  pub lowered_fallen : (qs : List ℕ) (entries : List Entry) (work : List Bool) → All (λ q. q < length entries) qs → length work ≡ length entries → Fallen entries work (lowered task units n r qs entries work)
  lowered_fallen [] entries work within as_many = fallen_self entries work
  lowered_fallen (q ∷ qs) entries work within as_many =
      let rest : All (λ p. p < length entries) qs = All-tail (λ p. p < length entries) q qs within in
      cond_both (is_below (to q) (at entries q)) (lowered task units n r qs (set entries q (Some (to q))) (set work q true)) (lowered task units n r qs entries work) (Fallen entries work)
      (λ e. fallen_then entries work (set entries q (Some (to q)), set work q true) (lowered task units n r qs (set entries q (Some (to q))) (set work q true))
      (fallen_one entries work q (to q) e (All-head (λ p. p < length entries) q qs within) (subst (λ k. q < k) (sym as_many) (All-head (λ p. p < length entries) q qs within)))
      (lowered_fallen qs (set entries q (Some (to q))) (set work q true) (longer entries q qs rest) (still entries work q as_many)))
      (λ e. lowered_fallen qs entries work rest as_many)

  pub lowered_all : (qs : List ℕ) (entries : List Entry) (work : List Bool) → All (λ q. q < length entries) qs → length work ≡ length entries → (p : ℕ) → has qs p ≡ true → IsAtMost (at (lowered task units n r qs entries work).0 p) (Some (to p))
  lowered_all [] entries work within as_many p h = absurd (false≢true h)
  lowered_all (q ∷ qs) entries work within as_many p h =
      let rest : All (λ p. p < length entries) qs = All-tail (λ p. p < length entries) q qs within in
      let here : q < length entries = All-head (λ p. p < length entries) q qs within in
      cond_both (is_below (to q) (at entries q)) (lowered task units n r qs (set entries q (Some (to q))) (set work q true)) (lowered task units n r qs entries work) (λ x. IsAtMost (at x.0 p) (Some (to p)))
      (λ e. elim (or_cases (eqb q p) (has qs p) h) [
        | inl same ↦ subst (λ k. IsAtMost (at (lowered task units n r qs (set entries q (Some (to q))) (set work q true)).0 k) (Some (to k))) (eqb-true q p same)
            (subst (IsAtMost (at (lowered task units n r qs (set entries q (Some (to q))) (set work q true)).0 q)) (get_or-set_same entries q (Some (to q)) None here)
            ((lowered_fallen qs (set entries q (Some (to q))) (set work q true) (longer entries q qs rest) (still entries work q as_many)).lower q))
        | inr later ↦ lowered_all qs (set entries q (Some (to q))) (set work q true) (longer entries q qs rest) (still entries work q as_many) p later
      ])
      (λ e. elim (or_cases (eqb q p) (has qs p) h) [
        | inl same ↦ subst (λ k. IsAtMost (at (lowered task units n r qs entries work).0 k) (Some (to k))) (eqb-true q p same)
            (at_most_trans (at (lowered task units n r qs entries work).0 q) (at entries q) (Some (to q)) ((lowered_fallen qs entries work rest as_many).lower q) (not_below_at_most (to q) (at entries q) e))
        | inr later ↦ lowered_all qs entries work rest as_many p later
      ])

  pub lowered_only : (qs : List ℕ) (entries : List Entry) (work : List Bool) → All (λ q. q < length entries) qs → (p : ℕ) → (at (lowered task units n r qs entries work).0 p ≡ at entries p) ⊎ ((has qs p ≡ true) × (at (lowered task units n r qs entries work).0 p ≡ Some (to p)))
  lowered_only [] entries work within p = inl refl
  lowered_only (q ∷ qs) entries work within p =
      let rest : All (λ p. p < length entries) qs = All-tail (λ p. p < length entries) q qs within in
      let here : q < length entries = All-head (λ p. p < length entries) q qs within in
      cond_both (is_below (to q) (at entries q)) (lowered task units n r qs (set entries q (Some (to q))) (set work q true)) (lowered task units n r qs entries work) (λ x. (at x.0 p ≡ at entries p) ⊎ ((has (q ∷ qs) p ≡ true) × (at x.0 p ≡ Some (to p))))
      (λ e. elim (lowered_only qs (set entries q (Some (to q))) (set work q true) (longer entries q qs rest) p) [
        | inl same ↦ elim (cases_eq p q) [
          | inl i ↦ inr (or_left (eqb q p) (has qs p) (eq-eqb q p (sym i)), same ∙ subst (λ k. at (set entries q (Some (to q))) k ≡ Some (to k)) (sym i) (get_or-set_same entries q (Some (to q)) None here))
          | inr ne ↦ inl (same ∙ get_or-set_other entries q p (Some (to q)) None ne)
        ]
        | inr new ↦ inr (or_right (eqb q p) (has qs p) new.0, new.1)
      ])
      (λ e. elim (lowered_only qs entries work rest p) [ inl same ↦ inl same | inr new ↦ inr (or_right (eqb q p) (has qs p) new.0, new.1) ])

module _ (task : Parts) (units : List ℕ) where
  step_within : (entries : List Entry) (n : ℕ) → length entries ≡ length task.subgoals → All (λ q. q < length entries) (achieved task n)
  step_within entries n e = subst (λ k. All (λ q. q < k) (achieved task n)) (sym e) (achieved_within task n)

  by_fallen : (n : ℕ) (entries : List Entry) (work : List Bool) (o : Entry) → length entries ≡ length task.subgoals → length work ≡ length task.subgoals → Fallen entries work (settled_by task units n o entries work)
  by_fallen n entries work None e m = fallen_self entries work
  by_fallen n entries work (Some r) e m = lowered_fallen task units n r (achieved task n) entries work (step_within entries n e) (m ∙ sym e)

  pub settled_fallen : (n : ℕ) (entries : List Entry) (work : List Bool) → length entries ≡ length task.subgoals → length work ≡ length task.subgoals → Fallen entries work (settled task units n entries work)
  settled_fallen n entries work e m = by_fallen n entries work (reach (at entries) (needs_of task n)) e m

  -- what changed is what the step achieves, where it has a reach
  by_only : (n : ℕ) (entries : List Entry) (work : List Bool) (o : Entry) → length entries ≡ length task.subgoals → (p : ℕ)
      → (at (settled_by task units n o entries work).0 p ≡ at entries p) ⊎ ((r : ℕ) × (o ≡ Some r) × (achieved_by task n p ≡ true) × (at (settled_by task units n o entries work).0 p ≡ Some (capped (weight task units n p + r))))
  by_only n entries work None e p = inl refl
  by_only n entries work (Some r) e p =
      elim (lowered_only task units n r (achieved task n) entries work (step_within entries n e) p) [ inl same ↦ inl same | inr new ↦ inr (r, refl, sym (achieved_has task n p) ∙ new.0, new.1) ]

  by_all : (n : ℕ) (entries : List Entry) (work : List Bool) (o : Entry) (r : ℕ) → o ≡ Some r → length entries ≡ length task.subgoals → length work ≡ length task.subgoals → (p : ℕ) → achieved_by task n p ≡ true
      → IsAtMost (at (settled_by task units n o entries work).0 p) (Some (weight task units n p + r))
  by_all n entries work None r is e marked p h = absurd (cc)
  by_all n entries work (Some m) r is e marked p h =
      subst (λ k. IsAtMost (at (lowered task units n m (achieved task n) entries work).0 p) (Some (weight task units n p + k))) (same_Some m r is)
      (at_most_trans (at (lowered task units n m (achieved task n) entries work).0 p) (Some (capped (weight task units n p + m))) (Some (weight task units n p + m))
      (lowered_all task units n m (achieved task n) entries work (step_within entries n e) (marked ∙ sym e) p (achieved_has task n p ∙ h)) (cap_below (weight task units n p + m)))

  -- where no need waits afterwards, the reach is as before
  reach_kept : (n : ℕ) (entries : List Entry) (work : List Bool) (after : List Entry × List Bool) → Fallen entries work after → ((q : ℕ) → has (needs_of task n) q ≡ true → on after.1 q ≡ false) → reach (at after.0) (needs_of task n) ≡ reach (at entries) (needs_of task n)
  reach_kept n entries work after fallen out =
      reach_same (at after.0) (at entries) (needs_of task n) (λ q h. elim (fallen.waits q) [ inl same ↦ same | inr there ↦ absurd (both_ways (on after.1 q) (out q h) there) ])

  -- the step is settled
  pub settled_done : (n : ℕ) (entries : List Entry) (work : List Bool) → length entries ≡ length task.subgoals → length work ≡ length task.subgoals → IsSettled task units n (settled task units n entries work).0 (settled task units n entries work).1
  settled_done n entries work e m out r is q h =
      by_all n entries work (reach (at entries) (needs_of task n)) r
      (sym (reach_kept n entries work (settled task units n entries work) (settled_fallen n entries work e m) out) ∙ is) e m q h

  -- and stays so
  pub settled_stays : (n : ℕ) (entries : List Entry) (work : List Bool) (after : List Entry × List Bool) → Fallen entries work after → IsSettled task units n entries work → IsSettled task units n after.0 after.1
  settled_stays n entries work after fallen done out r is q h =
      at_most_trans (at after.0 q) (at entries q) (Some (weight task units n q + r)) (fallen.lower q)
      (done (λ d i. false_from_ne_true (on work d) (λ there. both_ways (on after.1 d) (out d i) (fallen.stays d there))) r (sym (reach_kept n entries work after fallen out) ∙ is) q h)

all_true : (p : ℕ → Bool) (xs : List ℕ) → ((q : ℕ) → has xs q ≡ true → p q ≡ true) → list_all p xs ≡ true
all_true p [] h = refl
all_true p (x ∷ xs) h =
    and_from (p x) (list_all p xs) (h x (or_left (eqb x x) (has xs x) (eq-eqb x x refl))) (all_true p xs (λ q i. h q (or_right (eqb x q) (has xs q) i)))

some_number : (e : Entry) → is_some e ≡ true → (m : ℕ) × (e ≡ Some m)
some_number None h = absurd (false≢true h)
some_number (Some m) h = (m, refl)

number_some : (e : Entry) (m : ℕ) → e ≡ Some m → is_some e ≡ true
number_some e m h = ap (λ x. is_some x) h

-- an achiever gives an entry a number
entry_number : (task : Parts) (s : FlatState) (others : ℕ → Entry) (q : ℕ) (goal : Subgoal) (o : FlatStep) (r : ℕ) → IsTable task s others → slice_get task.subgoals q ≡ Some goal → Achiever task others goal o r → is_some (others q) ≡ true
entry_number task s others q (subgoal.Fact p) o r is of by = let n = at_most_number (others q) (o.cost + r) (is.bounded q (subgoal.Fact p) of o r by) in number_some (others q) n.0 n.1
entry_number task s others q (subgoal.NotFact p) o r is of by = let n = at_most_number (others q) (o.cost + r) (is.bounded q (subgoal.NotFact p) of o r by) in number_some (others q) n.0 n.1
entry_number task s others q (subgoal.Form form) o r is of by = let n = at_most_number (others q) (r + share s form o) (is.bounded q (subgoal.Form form) of o o r r by by) in number_some (others q) n.0 n.1

-- the subgoals with numbers are a closed set
numbers_closed : (task : Parts) (s : FlatState) (others : ℕ → Entry) → IsTable task s others → IsClosed task s (λ n. false) (λ q. is_some (others q))
numbers_closed task s others is = record {
  true_ones = λ q h. number_some (others q) 0 (is.true_ones q h);
  achieved = λ n q step at_step kept needs by.
      let goal = map_or_true (achieves step) (slice_get task.subgoals q) by in
      let r = numbers_reach others step.needs (λ d i. some_number (others d) (has_all (λ k. is_some (others k)) step.needs needs d i)) in
      entry_number task s others q goal.0 step r.0 is goal.1 record { number = n; at = at_step; reaches = r.1; achieves = goal.2 };
}

at_most_capped : (e : Entry) (m k : ℕ) → IsAtMost e (Some m) → ((n : ℕ) → e ≡ Some n → n < 4611686018427387904) → m ≤ k → IsAtMost e (Some (capped k))
at_most_capped None m k h small le = h
at_most_capped (Some n) m k h small le = let below : n < 4611686018427387904 = small n refl in omega arith

at_most_cap : (e : Entry) (k : ℕ) → is_some e ≡ true → ((n : ℕ) → e ≡ Some n → n < 4611686018427387904) → 4611686018427387903 ≤ k → IsAtMost e (Some (capped k))
at_most_cap None k h small le = absurd (false≢true h)
at_most_cap (Some n) k h small le = let below : n < 4611686018427387904 = small n refl in omega arith

zero_at_most : (e x : Entry) → e ≡ Some 0 → IsAtMost e x
zero_at_most e None h = tt
zero_at_most e (Some n) h = subst (λ y. IsAtMost y (Some n)) (sym h) (omega arith)

pub record Valid (task : Parts) (s : FlatState) (can : ℕ → Bool) (entries : List Entry) : Type 0 where
  pub count : length entries ≡ length task.subgoals
  pub small : (q n : ℕ) → at entries q ≡ Some n → n < 4611686018427387904
  pub reachable : (q n : ℕ) → at entries q ≡ Some n → can q ≡ true
  pub true_ones : (q : ℕ) → holds task s q ≡ true → at entries q ≡ Some 0
  pub above : (others : ℕ → Entry) → IsTable task s others → (q : ℕ) → IsAtMost (others q) (at entries q)

module _ (task : Parts) (units : List ℕ) (s : FlatState) (can : ℕ → Bool) (is_least : IsLeast task s (λ n. false) can) (of_units : AreUnits task s can units) where
  -- a table's entry is at most what the step allows
  allowed : (others : ℕ → Entry) (n q : ℕ) (goal : Subgoal) (o : FlatStep) (m r : ℕ) → IsTable task s others → slice_get task.subgoals q ≡ Some goal → slice_get task.steps n ≡ Some o → Achiever task others goal o m → m ≤ r
      → IsAtMost (others q) (Some (capped (weight task units n q + r)))
  allowed others n q (subgoal.Fact p) o m r is of at_step by le =
      let costs : cost_of task n ≡ o.cost = ap (λ x. option_map_or (λ (y : FlatStep). y.cost) x 0) at_step in
      let w : weight task units n q ≡ cost_of task n = ap (λ x. weight_by x (cost_of task n) (unit_at units q)) of in
      at_most_capped (others q) (o.cost + m) (weight task units n q + r) (is.bounded q (subgoal.Fact p) of o m by) (is.small q) (omega arith)
  allowed others n q (subgoal.NotFact p) o m r is of at_step by le =
      let costs : cost_of task n ≡ o.cost = ap (λ x. option_map_or (λ (y : FlatStep). y.cost) x 0) at_step in
      let w : weight task units n q ≡ cost_of task n = ap (λ x. weight_by x (cost_of task n) (unit_at units q)) of in
      at_most_capped (others q) (o.cost + m) (weight task units n q + r) (is.bounded q (subgoal.NotFact p) of o m by) (is.small q) (omega arith)
  allowed others n q (subgoal.Form form) o m r is of at_step by le =
      let w : weight task units n q ≡ unit_at units q = ap (λ x. weight_by x (cost_of task n) (unit_at units q)) of in
      elim (cases_Bool (holds task s q)) [
        | inl early ↦ zero_at_most (others q) (Some (capped (weight task units n q + r))) (is.true_ones q early)
        | inr late ↦ elim (of_units.reached q form of late) [
          | inl big ↦ at_most_cap (others q) (weight task units n q + r) (entry_number task s others q (subgoal.Form form) o m is of by) (is.small q) (omega arith)
          | inr some ↦
              let reached = numbers_reach others some.1.needs (λ d i. some_number (others d) (is_least.least (λ k. is_some (others k)) (numbers_closed task s others is) d (has_all can some.1.needs some.3 d i))) in
              let same : unit_at units q ≡ share s form some.1 = some.5 in
              at_most_capped (others q) (m + share s form some.1) (weight task units n q + r)
              (is.bounded q (subgoal.Form form) of o some.1 m reached.0 by record { number = some.0; at = some.2; reaches = reached.1; achieves = some.4 }) (is.small q) (omega arith)
        ]
      ]

  valid_settled : (n : ℕ) (entries : List Entry) (work : List Bool) → length work ≡ length task.subgoals → Valid task s can entries → Valid task s can (settled task units n entries work).0
  valid_settled n entries work marked valid = record {
    count = (settled_fallen task units n entries work valid.count marked).count ∙ valid.count;
    small = λ q m h. elim (only q) [
      | inl same ↦ valid.small q m (sym same ∙ h)
      | inr new ↦ let e : capped (weight task units n q + new.0) ≡ m = same_Some (capped (weight task units n q + new.0)) m (sym new.3 ∙ h) in omega arith
    ];
    reachable = λ q m h. elim (only q) [
      | inl same ↦ valid.reachable q m (sym same ∙ h)
      | inr new ↦ let of = achiever q new.2 in
          is_least.closed.achieved n q of.0 of.2 refl
          (all_true can of.0.needs (λ d i. let number = reach_numbers (at entries) (needs_of task n) new.0 new.1 d (subst (λ xs. has xs d ≡ true) (sym (needs of.0 of.2)) i) in valid.reachable d number.0 number.1)) (ap (λ o. option_map_or (achieves of.0) o false) of.3 ∙ of.4)
    ];
    true_ones = λ q h. at_most_zero (at after.0 q) (subst (IsAtMost (at after.0 q)) (valid.true_ones q h) ((settled_fallen task units n entries work valid.count marked).lower q));
    above = λ others is q. elim (only q) [
      | inl same ↦ subst (IsAtMost (others q)) (sym same) (valid.above others is q)
      | inr new ↦ let of = achiever q new.2 in
          let before = at_most_number (reach others (needs_of task n)) new.0 (subst (IsAtMost (reach others (needs_of task n))) new.1 (reach_mono others (at entries) (valid.above others is) (needs_of task n))) in
          subst (IsAtMost (others q)) (sym new.3)
          (allowed others n q of.1 of.0 before.0 new.0 is of.3 of.2 record { number = n; at = of.2; reaches = ap (reach others) (sym (needs of.0 of.2)) ∙ before.1; achieves = of.4 } before.2)
    ];
  }
    where
      after : List Entry × List Bool
      after = settled task units n entries work

      only : (p : ℕ) → (at (settled task units n entries work).0 p ≡ at entries p) ⊎ ((r : ℕ) × (reach (at entries) (needs_of task n) ≡ Some r) × (achieved_by task n p ≡ true) × (at (settled task units n entries work).0 p ≡ Some (capped (weight task units n p + r))))
      only p = by_only task units n entries work (reach (at entries) (needs_of task n)) valid.count p

      achiever : (q : ℕ) → achieved_by task n q ≡ true → (step : FlatStep) × (goal : Subgoal) × (slice_get task.steps n ≡ Some step) × (slice_get task.subgoals q ≡ Some goal) × (achieves step goal ≡ true)
      achiever q h =
          let step = map_or_true (λ step. option_map_or (achieves step) (slice_get task.subgoals q) false) (slice_get task.steps n) h in
          let goal = map_or_true (achieves step.0) (slice_get task.subgoals q) step.2 in
          (step.0, goal.0, step.1, goal.1, goal.2)

      needs : (step : FlatStep) → slice_get task.steps n ≡ Some step → needs_of task n ≡ step.needs
      needs step e = ap (λ o. option_map_or (λ (x : FlatStep). x.needs) o []) e

  all_valid : (ns : List ℕ) (entries : List Entry) (work : List Bool) → length work ≡ length task.subgoals → Valid task s can entries → Valid task s can (all_settled task units ns entries work).0
  all_valid [] entries work marked valid = valid
  all_valid (n ∷ ns) entries work marked valid =
      let next = settled task units n entries work in all_valid ns next.0 next.1 ((settled_fallen task units n entries work valid.count marked).marked ∙ marked) (valid_settled n entries work marked valid)

  all_fallen : (ns : List ℕ) (entries : List Entry) (work : List Bool) → length entries ≡ length task.subgoals → length work ≡ length task.subgoals → Fallen entries work (all_settled task units ns entries work)
  all_fallen [] entries work e m = fallen_self entries work
  all_fallen (n ∷ ns) entries work e m =
      let next = settled task units n entries work in
      let here : Fallen entries work next = settled_fallen task units n entries work e m in
      fallen_then entries work next (all_settled task units ns next.0 next.1) here (all_fallen ns next.0 next.1 (here.count ∙ e) (here.marked ∙ m))

  all_done : (ns : List ℕ) (entries : List Entry) (work : List Bool) → length entries ≡ length task.subgoals → length work ≡ length task.subgoals → (n : ℕ) → has ns n ≡ true
      → IsSettled task units n (all_settled task units ns entries work).0 (all_settled task units ns entries work).1
  all_done [] entries work e marks n h = absurd (false≢true h)
  all_done (m ∷ ns) entries work e marks n h =
      let next = settled task units m entries work in
      let here : Fallen entries work next = settled_fallen task units m entries work e marks in
      let count : length next.0 ≡ length task.subgoals = here.count ∙ e in
      let marked : length next.1 ≡ length task.subgoals = here.marked ∙ marks in
      elim (or_cases (eqb m n) (has ns n) h) [
        | inl same ↦ settled_stays task units n next.0 next.1 (all_settled task units ns next.0 next.1) (all_fallen ns next.0 next.1 count marked)
            (subst (λ k. IsSettled task units k next.0 next.1) (eqb-true m n same) (settled_done task units m entries work e marks))
        | inr later ↦ all_done ns next.0 next.1 count marked n later
      ]

  valid_of : (entries : List Entry) (work : List Bool) (n : ℕ) → IsFalling task s can units entries work n → Valid task s can entries
  valid_of entries work n falling = record { count = falling.count; small = falling.small; reachable = falling.reachable; true_ones = falling.true_ones; above = falling.above }

  -- one more step at the start
  pub fell_first : (entries : List Entry) (work : List Bool) (n : ℕ) (after : List Entry × List Bool) → IsFalling task s can units entries work n → after ≡ settled task units n entries work
      → IsFalling task s can units after.0 after.1 (n + 1)
  fell_first entries work n after falling e =
      let valid : Valid task s can (settled task units n entries work).0 = valid_settled n entries work falling.marked (valid_of entries work n falling) in
      subst (λ x. IsFalling task s can units x.0 x.1 (n + 1)) (sym e) record {
        count = valid.count;
        marked = (settled_fallen task units n entries work falling.count falling.marked).marked ∙ falling.marked;
        small = valid.small;
        reachable = valid.reachable;
        true_ones = valid.true_ones;
        above = valid.above;
        settled = λ m lt. elim (cases_eq m n) [
          | inl same ↦ subst (λ k. IsSettled task units k (settled task units n entries work).0 (settled task units n entries work).1) (sym same) (settled_done task units n entries work falling.count falling.marked)
          | inr ne ↦ settled_stays task units m entries work (settled task units n entries work) (settled_fallen task units n entries work falling.count falling.marked) (falling.settled m (omega arith))
        ];
      }

  -- one more subgoal, whose mark is taken away
  pub fell_on : (entries : List Entry) (all work : List Bool) (ns : List ℕ) (q n : ℕ) (after : List Entry × List Bool) → IsFalling task s can units entries all n → work ≡ set all q false
      → ((m : ℕ) → m < n → has (needs_of task m) q ≡ true → has ns m ≡ true) → after ≡ all_settled task units ns entries work → IsFalling task s can units after.0 after.1 n
  fell_on entries all work ns q n after falling taken looked e =
      subst (λ x. IsFalling task s can units x.0 x.1 n) (sym e) record {
        count = valid.count;
        marked = fallen.marked ∙ marks;
        small = valid.small;
        reachable = valid.reachable;
        true_ones = valid.true_ones;
        above = valid.above;
        settled = λ m lt. elim (cases_Bool (has (needs_of task m) q)) [
          | inl needed ↦ all_done ns entries work falling.count marks m (looked m lt needed)
          | inr out ↦ λ away r is p h.
              at_most_trans (at end.0 p) (at entries p) (Some (weight task units m p + r)) (fallen.lower p)
              (falling.settled m lt (λ d i. unmarked m d out i (away d i)) r (sym (reach_kept task units m entries work end fallen away) ∙ is) p h)
        ];
      }
    where
      marks : length work ≡ length task.subgoals
      marks = ap length taken ∙ length-set all q false ∙ falling.marked

      end : List Entry × List Bool
      end = all_settled task units ns entries work

      fallen : Fallen entries work (all_settled task units ns entries work)
      fallen = all_fallen ns entries work falling.count marks

      valid : Valid task s can (all_settled task units ns entries work).0
      valid = all_valid ns entries work marks (valid_of entries all n falling)

      unmarked : (m d : ℕ) → has (needs_of task m) q ≡ false → has (needs_of task m) d ≡ true → on (all_settled task units ns entries work).1 d ≡ false → on all d ≡ false
      unmarked m d out i gone =
          sym (ap (λ w. on w d) taken ∙ get_or-set_other all q d false false (λ same. both_ways (has (needs_of task m) d) (subst (λ k. has (needs_of task m) k ≡ false) (sym same) out) i))
          ∙ false_from_ne_true (on work d) (λ there. both_ways (on (all_settled task units ns entries work).1 d) gone (fallen.stays d there))

  -- where nothing is marked, they are a table, and no table has a larger entry
  bounded : (entries : List Entry) (work : List Bool) (n : ℕ) → ((q : ℕ) → on work q ≡ false) → IsFalling task s can units entries work n → n ≡ length task.steps → (q : ℕ) (goal : Subgoal) (o : FlatStep) (r : ℕ) → slice_get task.subgoals q ≡ Some goal → (by : Achiever task (at entries) goal o r)
      → IsAtMost (at entries q) (Some (weight task units by.number q + r))
  bounded entries work n none falling every q goal o r of by =
      falling.settled by.number (subst (λ k. by.number < k) (sym every) (slice_get_within task.steps by.number o by.at)) (λ d i. none d) r
      (ap (λ x. reach (at entries) (option_map_or (λ (y : FlatStep). y.needs) x [])) by.at ∙ by.reaches) q
      (ap (λ x. option_map_or (λ (y : FlatStep). option_map_or (achieves y) (slice_get task.subgoals q) false) x false) by.at ∙ ap (λ x. option_map_or (achieves o) x false) of ∙ by.achieves)

  fact_bound : (entries : List Entry) (q : ℕ) (goal : Subgoal) (o : FlatStep) (r : ℕ) (by : Achiever task (at entries) goal o r) → weight task units by.number q ≡ cost_of task by.number → IsAtMost (at entries q) (Some (weight task units by.number q + r)) → IsAtMost (at entries q) (Some (o.cost + r))
  fact_bound entries q goal o r by w h =
      subst (λ k. IsAtMost (at entries q) (Some (k + r))) (w ∙ ap (λ x. option_map_or (λ (y : FlatStep). y.cost) x 0) by.at) h

  is_entry : (entries : List Entry) (work : List Bool) (n : ℕ) → ((q : ℕ) → on work q ≡ false) → IsFalling task s can units entries work n → n ≡ length task.steps → (q : ℕ) (goal : Subgoal) → slice_get task.subgoals q ≡ Some goal → IsEntry task s (at entries) (at entries q) goal
  is_entry entries work n none falling every q (subgoal.Fact p) of = λ o r by.
      fact_bound entries q (subgoal.Fact p) o r by (ap (λ x. weight_by x (cost_of task by.number) (unit_at units q)) of) (bounded entries work n none falling every q (subgoal.Fact p) o r of by)
  is_entry entries work n none falling every q (subgoal.NotFact p) of = λ o r by.
      fact_bound entries q (subgoal.NotFact p) o r by (ap (λ x. weight_by x (cost_of task by.number) (unit_at units q)) of) (bounded entries work n none falling every q (subgoal.NotFact p) o r of by)
  is_entry entries work n none falling every q (subgoal.Form form) of = λ o u r m by pays.
      elim (cases_Bool (holds task s q)) [
        | inl early ↦ zero_at_most (at entries q) (Some (r + share s form u)) (falling.true_ones q early)
        | inr late ↦
            let w : weight task units by.number q ≡ unit_at units q = ap (λ x. weight_by x (cost_of task by.number) (unit_at units q)) of in
            let cheap : unit_at units q ≤ share s form u = of_units.least q pays.number form u of late pays.at
            (all_true can u.needs (λ d i. let number = reach_numbers (at entries) u.needs m pays.reaches d i in falling.reachable d number.0 number.1)) pays.achieves in
            at_most_trans (at entries q) (Some (weight task units by.number q + r)) (Some (r + share s form u)) (bounded entries work n none falling every q (subgoal.Form form) o r of by) (omega arith)
      ]

  pub fallen_greatest : (entries : List Entry) (work : List Bool) (n : ℕ) → ((q : ℕ) → on work q ≡ false) → n ≡ length task.steps → IsFalling task s can units entries work n → IsGreatest task s (at entries)
  fallen_greatest entries work n none every falling =
      record {
        table = record { small = falling.small; true_ones = falling.true_ones; bounded = is_entry entries work n none falling every };
        greatest = λ others is q lt. falling.above others is q;
      }

  -- at first
  pub fell_begin : (entries : List Entry) (work : List Bool) → length entries ≡ length task.subgoals → ((q : ℕ) → q < length task.subgoals → at entries q ≡ cond (holds task s q) (Some 0) None) → length work ≡ length task.subgoals → IsFalling task s can units entries work 0
  fell_begin entries work count begun marks = record {
    count = count;
    marked = marks;
    small = λ q m h. let zero : m ≡ 0 = (start q m h).1 in omega arith;
    reachable = λ q m h. is_least.closed.true_ones q (start q m h).0;
    true_ones = λ q h. begun q (in_range q h) ∙ ap (λ b. cond b (Some 0) None) h;
    above = λ others is q. top others is q (at entries q) refl;
    settled = λ m lt. absurd (omega arith);
  }
    where
      in_range : (q : ℕ) → holds task s q ≡ true → q < length task.subgoals
      in_range q h = let found = map_or_true (subgoal_holds s) (slice_get task.subgoals q) h in slice_get_within task.subgoals q found.0 found.1

      zero_only : (b : Bool) (m : ℕ) → cond b (Some 0) None ≡ Some m → (b ≡ true) × (m ≡ 0)
      zero_only true m h = (refl, sym (same_Some 0 m h))
      zero_only false m h = absurd (cc)

      start : (q m : ℕ) → at entries q ≡ Some m → (holds task s q ≡ true) × (m ≡ 0)
      start q m h = elim (cases_lt q (length task.subgoals)) [
        | inl lt ↦ zero_only (holds task s q) m (sym (begun q lt) ∙ h)
        | inr ge ↦ let past : at entries q ≡ None = get_or_past entries q None (subst (λ k. k ≤ q) (sym count) ge) in absurd (cc)
      ]

      top : (others : ℕ → Entry) → IsTable task s others → (q : ℕ) (e : Entry) → at entries q ≡ e → IsAtMost (others q) e
      top others is q None h = tt
      top others is q (Some m) h = zero_at_most (others q) (Some m) (is.true_ones q (start q m h).0)

pub settle_more : (task : Parts) (units ns : List ℕ) (i d : ℕ) (entries : List Entry) (work : List Bool) (after : List Entry × List Bool) → i < length ns → after ≡ settled task units (get_or ns i d) entries work
    → all_settled task units (drop i ns) entries work ≡ all_settled task units (drop (i + 1) ns) after.0 after.1
settle_more task units ns i d entries work after h e = rw (add-one, drop-cons ns i d h, e) refl

pub less_then : {x y z : ℕ} → x ≤ y → y ≤ z → x ≤ z
less_then h k = omega arith

-- a lowering pays for what is put into the heap
pub lowered_less : (entries after : List Entry) (q m before now most : ℕ) → after ≡ set entries q (Some m) → is_below m (at entries q) ≡ true → m < 4611686018427387904 → q < length entries → now ≡ 1 + before
    → height entries + height entries + before ≤ most → height after + height after + now ≤ most
lowered_less entries after q m before now most e below small h more le =
    subst (λ x. height x + height x + now ≤ most) (sym e)
    (sum (height (set entries q (Some m))) (height entries) (height_set entries q m below small h) le)
  where
    sum : (x y : ℕ) → x + 1 ≤ y → y + y + before ≤ most → x + x + now ≤ most
    sum x y a b = omega arith

pub one_fallen : (task : Parts) (units : List ℕ) (n r q : ℕ) (entries : List Entry) (marks : List Bool) → q < length entries → length marks ≡ length entries → Fallen entries marks (lowered task units n r (q ∷ []) entries marks)
one_fallen task units n r q entries marks h same = lowered_fallen task units n r (q ∷ []) entries marks (All-push (λ p. p < length entries) [] q (All-nil (λ p. p < length entries)) h) same

-- one more of a list
pub lower_more : (task : Parts) (units : List ℕ) (n r : ℕ) (qs : List ℕ) (i d : ℕ) (entries : List Entry) (marks : List Bool) (after : List Entry × List Bool) → i < length qs → after ≡ lowered task units n r (get_or qs i d ∷ []) entries marks
    → lowered task units n r (drop i qs) entries marks ≡ lowered task units n r (drop (i + 1) qs) after.0 after.1
lower_more task units n r qs i d entries marks after h e = rw (add-one, drop-cons qs i d h, e) (first (get_or qs i d) (drop (suc i) qs))
  where
    first : (q : ℕ) (rest : List ℕ) → lowered task units n r (q ∷ rest) entries marks ≡ lowered task units n r rest (lowered task units n r (q ∷ []) entries marks).0 (lowered task units n r (q ∷ []) entries marks).1
    first q rest =
        let m = capped (weight task units n q + r) in
        by (is_below m (at entries q)) (set entries q (Some m)) (set marks q true)
      where
        by : (b : Bool) (xs : List Entry) (ms : List Bool) → cond b (lowered task units n r rest xs ms) (lowered task units n r rest entries marks) ≡ lowered task units n r rest (cond {A = List Entry × List Bool} b (xs, ms) (entries, marks)).0 (cond {A = List Entry × List Bool} b (xs, ms) (entries, marks)).1
        by true xs ms = refl
        by false xs ms = refl

-- no step is removed
pub none_on : (k i : ℕ) → on (replicate k false) i ≡ false
none_on zero i = refl
none_on (suc k) zero = refl
none_on (suc k) (suc i) = none_on k i

pub none_removed : (task : Parts) (s : FlatState) (removed : List Bool) (k : ℕ) (can : ℕ → Bool) → removed ≡ replicate k false → IsLeast task s (on removed) can → IsLeast task s (λ n. false) can
none_removed task s removed k can e least =
    subst (λ (f : ℕ → Bool). IsLeast task s f can) none (subst (λ xs. IsLeast task s (on xs) can) e least)
  where
    none : on (replicate k false) ≡ (λ n. false)
    none = λ i. λ n. none_on k n i
