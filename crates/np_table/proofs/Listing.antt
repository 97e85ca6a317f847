-- The list of the entries above 0 has the entries of the table.
use Rattle.std.proofs.Common.{◌≡◌, ◌≢◌, ℕ, zero, suc, ◌+◌, ◌<◌, ◌≤◌, ◌^◌, ◌==◌, Bool, true, false, cond, List, [], ◌∷◌, ◌++◌, map, length, All, refl, sym, ap, ◌∙◌, subst, inl, inr, arith, Some, None, eq-eqb, ne_eqb}
use Rattle.std.specs.Prelude.{slice_get, AllPairs}
use Rattle.std.proofs.lemmas.Bool.{cases_eq, cases_lt, eqb-true, or_cases, both_ways}
use Rattle.std.proofs.lemmas.List.{map-append}
use Rattle.std.proofs.lemmas.List.Elements.{All-nil, All-head, All-tail, All-push, All-weaker}
use Rattle.std.proofs.lemmas.List.Quantifiers.{all_pairs_push}
use Rattle.std.proofs.lemmas.Option.{slice_get_within, same_Some}
use Rattle.np_space.specs.declared.bound.Bound.{Bound}
use Rattle.np_space.specs.declared.bound.Bound.TheVariants as bound
use Rattle.np_flat.specs.declared.state.FlatState.{FlatState}
use Rattle.np_flat.specs.declared.parts.Subgoal.{Subgoal}
use Rattle.np_flat.specs.declared.parts.Subgoal.TheVariants as subgoal
use Rattle.np_flat.specs.declared.parts.FlatStep.{FlatStep}
use Rattle.np_flat.specs.declared.parts.Parts.{Parts}
use Rattle.np_flat.specs.Flats.{IsFlat}
use Rattle.np_flat.specs.States.{has, subgoal_holds}
use Rattle.np_flat.proofs.Runs.{step_there}
use Rattle.np_relax.proofs.Closes.{map_or_true}
use Rattle.np_table.specs.Tables.{Entry, IsAtMost, reach, share, Achiever, IsEntry, IsTable, IsGreatest}
use Rattle.np_table.specs.Listed.{as_entry, entry_in}
use Rattle.np_table.specs.Listing.{added, AreListed}
use Rattle.np_table.proofs.Orders.{reach_same}

-- what is above all that are listed isn't listed
entry_absent : (xs : List (ℕ × Bound)) (q : ℕ) → All (λ e. e.0 < q) xs → entry_in as_entry xs q ≡ Some 0
entry_absent [] q below = refl
entry_absent (x ∷ xs) q below =
    ap (λ b. cond b (as_entry x.1) (entry_in as_entry xs q)) (ne_eqb x.0 q (other x.0 q (All-head (λ (e : ℕ × Bound). e.0 < q) x xs below)))
    ∙ entry_absent xs q (All-tail (λ (e : ℕ × Bound). e.0 < q) x xs below)
  where
    other : (m n : ℕ) → m < n → m ≡ n → ⊥
    other m n h e = omega arith

-- one more leaves the others as they are
entry_kept : (xs : List (ℕ × Bound)) (k q : ℕ) (b : Bound) → q ≢ k → entry_in as_entry (xs ++ (k, b) ∷ []) q ≡ entry_in as_entry xs q
entry_kept [] k q b ne = ap (λ t. cond t (as_entry b) (Some 0)) (ne_eqb k q (λ e. ne (sym e)))
entry_kept (x ∷ xs) k q b ne = ap (λ e. cond (x.0 == q) (as_entry x.1) e) (entry_kept xs k q b ne)

entry_new : (xs : List (ℕ × Bound)) (k : ℕ) (b : Bound) → All (λ e. e.0 < k) xs → entry_in as_entry (xs ++ (k, b) ∷ []) k ≡ as_entry b
entry_new [] k b below = ap (λ t. cond t (as_entry b) (Some 0)) (eq-eqb k k refl)
entry_new (x ∷ xs) k b below =
    ap (λ t. cond t (as_entry x.1) (entry_in as_entry (xs ++ (k, b) ∷ []) k)) (ne_eqb x.0 k (other x.0 k (All-head (λ (e : ℕ × Bound). e.0 < k) x xs below)))
    ∙ entry_new xs k b (All-tail (λ (e : ℕ × Bound). e.0 < k) x xs below)
  where
    other : (m n : ℕ) → m < n → m ≡ n → ⊥
    other m n h e = omega arith

cons_all : (P : ℕ → Type 0) (x : ℕ) (xs : List ℕ) → P x → All P xs → All P (x ∷ xs)
cons_all P x xs h all zero d lt = h
cons_all P x xs h all (suc i) d lt = all i d (omega arith)

All-map_first : (xs : List (ℕ × Bound)) (k : ℕ) → All (λ e. e.0 < k) xs → All (λ n. n < k) (map (λ e. e.0) xs)
All-map_first [] k all = All-nil (λ n. n < k)
All-map_first (x ∷ xs) k all = cons_all (λ n. n < k) x.0 (map (λ e. e.0) xs) (All-head (λ (e : ℕ × Bound). e.0 < k) x xs all) (All-map_first xs k (All-tail (λ (e : ℕ × Bound). e.0 < k) x xs all))

has_within : (m : ℕ) (xs : List ℕ) → All (λ n. n < m) xs → (q : ℕ) → has xs q ≡ true → q < m
has_within m [] all q h = absurd (cc)
has_within m (x ∷ xs) all q h = elim (or_cases (x == q) (has xs q) h) [
  | inl e ↦ subst (λ n. n < m) (eqb-true x q e) (All-head (λ n. n < m) x xs all)
  | inr i ↦ has_within m xs (All-tail (λ n. n < m) x xs all) q i
]

-- one more entry above 0
pushed : (f : ℕ → Entry) (xs : List (ℕ × Bound)) (k : ℕ) (b : Bound) → AreListed f k xs → as_entry b ≢ Some 0 → as_entry b ≡ f k → AreListed f (k + 1) (xs ++ (k, b) ∷ [])
pushed f xs k b listed above is = record {
  are = record {
    ascending = subst (AllPairs (λ m n. m < n)) (sym (map-append (λ (e : ℕ × Bound). e.0) xs ((k, b) ∷ []))) (all_pairs_push (λ m n. m < n) (map (λ e. e.0) xs) k listed.are.ascending (λ i d h. All-map_first xs k listed.are.within i d h));
    within = All-push (λ (e : ℕ × Bound). e.0 < k + 1) xs (k, b) (All-weaker (λ (e : ℕ × Bound). e.0 < k) (λ e. e.0 < k + 1) (λ e h. less e.0 h) xs listed.are.within) (here k);
    above = All-push (λ (e : ℕ × Bound). as_entry e.1 ≢ Some 0) xs (k, b) listed.are.above above;
  };
  same = λ q lt. elim (cases_eq q k) [
    | inl e ↦ subst (λ i. entry_in as_entry (xs ++ (k, b) ∷ []) i ≡ f i) (sym e) (entry_new xs k b listed.are.within ∙ is)
    | inr ne ↦ entry_kept xs k q b ne ∙ listed.same q (before q lt ne)
  ];
}
  where
    less : (n : ℕ) → n < k → n < k + 1
    less n h = omega arith

    here : (n : ℕ) → n < n + 1
    here n = omega arith

    before : (q : ℕ) → q < k + 1 → q ≢ k → q < k
    before q lt ne = elim (cases_lt q k) [ inl h ↦ h | inr h ↦ absurd (ne (omega arith)) ]

-- an entry of 0 isn't listed
passed : (f : ℕ → Entry) (xs : List (ℕ × Bound)) (k : ℕ) → AreListed f k xs → f k ≡ Some 0 → AreListed f (k + 1) xs
passed f xs k listed is = record {
  are = record {
    ascending = listed.are.ascending;
    within = All-weaker (λ (e : ℕ × Bound). e.0 < k) (λ e. e.0 < k + 1) (λ e h. less e.0 h) xs listed.are.within;
    above = listed.are.above;
  };
  same = λ q lt. elim (cases_eq q k) [
    | inl e ↦ subst (λ i. entry_in as_entry xs i ≡ f i) (sym e) (entry_absent xs k listed.are.within ∙ sym is)
    | inr ne ↦ listed.same q (before q lt ne)
  ];
}
  where
    less : (n : ℕ) → n < k → n < k + 1
    less n h = omega arith

    before : (q : ℕ) → q < k + 1 → q ≢ k → q < k
    before q lt ne = elim (cases_lt q k) [ inl h ↦ h | inr h ↦ absurd (ne (omega arith)) ]

pub listed_more : (f : ℕ → Entry) (xs ys : List (ℕ × Bound)) (k : ℕ) (e : Entry) → AreListed f k xs → e ≡ f k → ys ≡ added xs k e → AreListed f (k + 1) ys
listed_more f xs ys k None listed is e = subst (AreListed f (k + 1)) (sym e) (pushed f xs k bound.NoPlan listed (λ h. absurd (cc)) is)
listed_more f xs ys k (Some n) listed is e = subst (AreListed f (k + 1)) (sym e) (by (n == 0) refl)
  where
    by : (b : Bool) → (n == 0) ≡ b → AreListed f (k + 1) (cond b xs (xs ++ (k, bound.AtLeast n) ∷ []))
    by true none = passed f xs k listed (sym is ∙ ap (λ m. Some m) (eqb-true n 0 none))
    by false some = pushed f xs k (bound.AtLeast n) listed (λ h. both_ways (n == 0) some (eq-eqb n 0 (same_Some n 0 h))) is

pub listed_none : (f : ℕ → Entry) (xs : List (ℕ × Bound)) → xs ≡ [] → AreListed f 0 xs
listed_none f xs none = subst (AreListed f 0) (sym none) record {
  are = record { ascending = λ i j d lt h. absurd (omega arith); within = λ k d h. absurd (omega arith); above = λ k d h. absurd (omega arith) };
  same = λ q lt. absurd (omega arith);
}

-- a table with the same entries for the subgoals of the task
module _ (task : Parts) (s : FlatState) (f g : ℕ → Entry) (flat : IsFlat task) (same : (q : ℕ) → q < length task.subgoals → f q ≡ g q) where
  achiever : (goal : Subgoal) (o : FlatStep) (r : ℕ) → Achiever task g goal o r → Achiever task f goal o r
  achiever goal o r by = record {
    number = by.number;
    at = by.at;
    reaches = reach_same f g o.needs (λ q h. same q (has_within (length task.subgoals) o.needs (step_there task by.number o flat by.at).needs.within q h)) ∙ by.reaches;
    achieves = by.achieves;
  }

  entry_same : (q : ℕ) (goal : Subgoal) → f q ≡ g q → IsEntry task s f (f q) goal → IsEntry task s g (g q) goal
  entry_same q (subgoal.Fact p) e is = λ o r by. subst (λ x. IsAtMost x (Some (o.cost + r))) e (is o r (achiever (subgoal.Fact p) o r by))
  entry_same q (subgoal.NotFact p) e is = λ o r by. subst (λ x. IsAtMost x (Some (o.cost + r))) e (is o r (achiever (subgoal.NotFact p) o r by))
  entry_same q (subgoal.Form form) e is = λ o u r m by pays. subst (λ x. IsAtMost x (Some (r + share s form u))) e (is o u r m (achiever (subgoal.Form form) o r by) (achiever (subgoal.Form form) u m pays))

  pub same_table : ((q n : ℕ) → length task.subgoals ≤ q → g q ≡ Some n → n < 2 ^ 62) → IsTable task s f → IsTable task s g
  same_table past is = record {
    small = λ q n h. elim (cases_lt q (length task.subgoals)) [
      | inl lt ↦ is.small q n (same q lt ∙ h)
      | inr ge ↦ past q n ge h
    ];
    true_ones = λ q h. let goal = map_or_true (subgoal_holds s) (slice_get task.subgoals q) h in sym (same q (slice_get_within task.subgoals q goal.0 goal.1)) ∙ is.true_ones q h;
    bounded = λ q goal of. entry_same q goal (same q (slice_get_within task.subgoals q goal of)) (is.bounded q goal of);
  }

  pub same_reach : (numbers : List ℕ) → All (λ q. q < length task.subgoals) numbers → reach f numbers ≡ reach g numbers
  same_reach numbers within = reach_same f g numbers (λ q h. same q (has_within (length task.subgoals) numbers within q h))

  pub same_greatest : ((q : ℕ) → length task.subgoals ≤ q → g q ≡ Some 0) → IsGreatest task s f → IsGreatest task s g
  same_greatest past is = record {
    table = same_table (λ q n ge h. let zero : 0 ≡ n = same_Some 0 n (sym (past q ge) ∙ h) in omega arith) is.table;
    greatest = λ others of q lt. subst (IsAtMost (others q)) (same q lt) (is.greatest others of q lt);
  }

pub listed_greatest : (task : Parts) (s : FlatState) (entries : ℕ → Entry) (numbers : List (ℕ × Bound)) → IsFlat task → AreListed entries (length task.subgoals) numbers → IsGreatest task s entries → IsGreatest task s (entry_in as_entry numbers)
listed_greatest task s entries numbers flat listed is =
    same_greatest task s entries (entry_in as_entry numbers) flat (λ q lt. sym (listed.same q lt))
    (λ q ge. entry_absent numbers q (All-weaker (λ (e : ℕ × Bound). e.0 < length task.subgoals) (λ e. e.0 < q) (λ e h. less e.0 q h ge) numbers listed.are.within)) is
  where
    less : (n q : ℕ) → n < length task.subgoals → length task.subgoals ≤ q → n < q
    less n q h k = omega arith
