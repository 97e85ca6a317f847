-- A sharpened cut is allowed, and has the right side 1.
use Rattle.std.proofs.Common.{◌≡◌, ℕ, suc, ◌<◌, ◌≤◌, Bool, true, false, not, ◌&&◌, ◌||◌, ◌==◌, eqb, List, [], ◌∷◌, length, get_or, All, refl, sym, ap, ◌∙◌, subst, inl, inr, arith, Some, None, Option, eq-eqb, ne_eqb}
use Rattle.std.specs.Prelude.{pos, int_lt, nat_le, nat_lt, slice_get}
use Rattle.std.specs.List.{list_all, list_any, range_with_len}
use Rattle.std.specs.Option.{option_map_or}
use Rattle.std.proofs.lemmas.Bool.{le-leb, eqb-true, or_cases, or_left, or_right, or_from, and_parts, and_from, both_ways, not-true, not_from_false, false_from_ne_true, false≢true}
use Rattle.std.proofs.lemmas.List.FromFn.{length-range_with_len, get_or-range_with_len}
use Rattle.std.proofs.lemmas.List.Folds.{list_any_at}
use Rattle.std.proofs.lemmas.List.Elements.{All-nil, All-cons, All-filter, All-head, All-tail, All-weaker}
use Rattle.np_flat.specs.declared.state.FlatState.{FlatState}
use Rattle.np_flat.specs.declared.parts.FlatStep.{FlatStep}
use Rattle.np_flat.specs.declared.parts.Parts.{Parts}
use Rattle.np_flat.specs.Flats.{IsAscending}
use Rattle.np_flat.specs.States.{has, holds}
use Rattle.np_flat.specs.Achieving.{achieves_at, achieved_by, requires_at}
use Rattle.np_flat.proofs.Ascending.{above_first, ascending_rest, ascending_nil, ascending_cons, ascending_filter}
use Rattle.np_flat.proofs.Index.{has_filter}
use Rattle.np_relax.specs.Closed.{IsClosed, IsLeast}
use Rattle.np_relax.specs.Needing.{needs_of}
use Rattle.np_relax.proofs.Closes.{all_weaker, by_step}
use Rattle.np_relax.proofs.Works.{has_all}
use Rattle.np_count.specs.declared.proof.Row.{Row}
use Rattle.np_count.specs.declared.proof.Row.TheVariants as row
use Rattle.np_count.specs.Rows.{coefficient, right, is_allowed, one_if, is_cut, are_between}
use Rattle.np_cuts.specs.Cuts.{counts, outside, IsSharpened}

-- the steps that a cut of one subgoal counts are those that achieve it and don't need it
pub counts_by : (task : Parts) (q n : ℕ) → counts task q n ≡ (achieved_by task n q && not (has (needs_of task n) q))
counts_by task q n = of (slice_get task.steps n)
  where
    positive : (a r : Bool) → int_lt (pos 0) (one_if ((a || false) && not (r || false))) ≡ (a && not r)
    positive true true = refl
    positive true false = refl
    positive false true = refl
    positive false false = refl

    of : (o : Option FlatStep) → option_map_or (λ step. int_lt (pos 0) (coefficient task step (row.Cut (q ∷ [])))) o false
        ≡ (option_map_or (λ step. achieves_at task step q) o false && not (has (option_map_or (λ (step : FlatStep). step.needs) o []) q))
    of None = refl
    of (Some step) = positive (achieves_at task step q) (requires_at step q)

-- the subgoal itself is outside
pub stays_outside : (task : Parts) (s : FlatState) (q : ℕ) (within : ℕ → Bool) → holds task s q ≡ false → IsLeast task s (counts task q) within → within q ≡ false
stays_outside task s q within late is =
    false_from_ne_true (within q) (λ there.
    let parts = and_parts (within q) (not (eqb q q)) (is.least (λ p. within p && not (eqb p q)) closed q there) in
    both_ways (eqb q q) (not-true (eqb q q) parts.1) (eq-eqb q q refl))
  where
    all_first : (xs : List ℕ) → list_all (λ k. within k && not (eqb k q)) xs ≡ true → list_all within xs ≡ true
    all_first xs h = all_weaker (λ k. within k && not (eqb k q)) within (λ k i. (and_parts (within k) (not (eqb k q)) i).0) xs h

    required : (n : ℕ) → achieved_by task n q ≡ true → counts task q n ≡ false → has (needs_of task n) q ≡ true
    required n a k = by (has (needs_of task n) q) refl
      where
        by : (b : Bool) → has (needs_of task n) q ≡ b → has (needs_of task n) q ≡ true
        by true e = e
        by false e = absurd (both_ways (counts task q n) k (counts_by task q n ∙ and_from (achieved_by task n q) (not (has (needs_of task n) q)) a (not_from_false (has (needs_of task n) q) e)))

    other : (n p : ℕ) (step : FlatStep) → slice_get task.steps n ≡ Some step → counts task q n ≡ false → list_all (λ k. within k && not (eqb k q)) step.needs ≡ true → achieves_at task step p ≡ true → p ≡ q → ⊥
    other n p step at kept needs by same =
        let achieves_q : achieved_by task n q ≡ true = by_step task n q step at ∙ subst (λ k. achieves_at task step k ≡ true) same by in
        let needed : has step.needs q ≡ true = subst (λ xs. has xs q ≡ true) (ap (λ o. option_map_or (λ (x : FlatStep). x.needs) o []) at) (required n achieves_q kept) in
        let inside : (within q && not (eqb q q)) ≡ true = has_all (λ k. within k && not (eqb k q)) step.needs needs q needed in
        both_ways (eqb q q) (not-true (eqb q q) (and_parts (within q) (not (eqb q q)) inside).1) (eq-eqb q q refl)

    closed : IsClosed task s (counts task q) (λ p. within p && not (eqb p q))
    closed = record {
      true_ones = λ p h. and_from (within p) (not (eqb p q)) (is.closed.true_ones p h) (not_from_false (eqb p q) (ne_eqb p q (λ same. both_ways (holds task s q) late (subst (λ k. holds task s k ≡ true) same h))));
      achieved = λ n p step at kept needs by.
          and_from (within p) (not (eqb p q))
          (is.closed.achieved n p step at kept (all_first step.needs needs) by)
          (not_from_false (eqb p q) (ne_eqb p q (other n p step at kept needs by)));
    }

-- the numbers below a limit
numbers_up : (m : ℕ) → IsAscending (range_with_len 0 m)
numbers_up m i j d lt h =
    let within : j < m = subst (λ k. j < k) (length-range_with_len 0 m) h in
    let first = get_or-range_with_len 0 m i d (omega arith) in
    let second = get_or-range_with_len 0 m j d within in
    omega (arith, first, second)

numbers_within : (m : ℕ) → All (λ q. q < m) (range_with_len 0 m)
numbers_within m k d h =
    let within : k < m = subst (λ n. k < n) (length-range_with_len 0 m) h in
    let is = get_or-range_with_len 0 m k d within in
    omega (arith, is)

numbers_have : (m q : ℕ) → q < m → has (range_with_len 0 m) q ≡ true
numbers_have m q h =
    list_any_at (λ n. n == q) (range_with_len 0 m) q 0 (subst (λ k. q < k) (sym (length-range_with_len 0 m)) h)
    (eq-eqb (get_or (range_with_len 0 m) q 0) q (omega (arith, get_or-range_with_len 0 m q 0 h)))

outside_up : (task : Parts) (within : ℕ → Bool) → IsAscending (outside task within)
outside_up task within = ascending_filter (λ p. not (within p)) (range_with_len 0 (length task.subgoals)) (numbers_up (length task.subgoals))

outside_within : (task : Parts) (within : ℕ → Bool) → All (λ q. q < length task.subgoals) (outside task within)
outside_within task within = All-filter (λ p. not (within p)) (λ q. q < length task.subgoals) (range_with_len 0 (length task.subgoals)) (numbers_within (length task.subgoals))

outside_has : (task : Parts) (within : ℕ → Bool) (q : ℕ) → has (outside task within) q ≡ (has (range_with_len 0 (length task.subgoals)) q && not (within q))
outside_has task within q = has_filter (λ p. not (within p)) (range_with_len 0 (length task.subgoals)) q

-- ascending numbers below the limit are allowed
are_allowed : (limit least : ℕ) (us : List ℕ) → IsAscending us → All (λ u. u < limit) us → All (λ u. least ≤ u) us → are_between limit least us ≡ true
are_allowed limit least [] up below above = refl
are_allowed limit least (u ∷ us) up below above =
    let at : least ≤ u = All-head (λ v. least ≤ v) u us above in
    let under : u < limit = All-head (λ v. v < limit) u us below in
    and_from (nat_le least u) (nat_lt u limit && are_between limit (suc u) us) (le-leb least u at)
    (and_from (nat_lt u limit) (are_between limit (suc u) us) (le-leb (suc u) limit under)
    (are_allowed limit (suc u) us (ascending_rest u us up) (All-tail (λ v. v < limit) u us below) (All-weaker (λ v. u < v) (λ v. suc u ≤ v) (λ v h. omega arith) us (above_first u us up))))

cut_allowed : (limit q : ℕ) (us : List ℕ) → IsAscending us → All (λ u. u < limit) us → has us q ≡ true → is_cut limit us ≡ true
cut_allowed limit q [] up below h = absurd (false≢true h)
cut_allowed limit q (u ∷ us) up below h = are_allowed limit 0 (u ∷ us) up below (λ k d i. omega arith)

-- a cut of false subgoals with one of the goal has the right side 1
any_of : (f : ℕ → Bool) (xs : List ℕ) (p : ℕ) → has xs p ≡ true → f p ≡ true → list_any f xs ≡ true
any_of f [] p h k = absurd (false≢true h)
any_of f (x ∷ xs) p h k =
    elim (or_cases (eqb x p) (has xs p) h) [
      | inl same ↦ or_left (f x) (list_any f xs) (subst (λ n. f n ≡ true) (sym (eqb-true x p same)) k)
      | inr later ↦ or_right (f x) (list_any f xs) (any_of f xs p later k)
    ]

none_of : (f : ℕ → Bool) (xs : List ℕ) → ((q : ℕ) → has xs q ≡ true → f q ≡ false) → list_any f xs ≡ false
none_of f [] h = refl
none_of f (x ∷ xs) h =
    or_from (f x) (list_any f xs) (h x (or_left (eqb x x) (has xs x) (eq-eqb x x refl))) (none_of f xs (λ q i. h q (or_right (eqb x q) (has xs q) i)))

right_one : (task : Parts) (s : FlatState) (us : List ℕ) (q : ℕ) → ((p : ℕ) → has us p ≡ true → holds task s p ≡ false) → has us q ≡ true → has task.goal q ≡ true → right task s (row.Cut us) ≡ pos 1
right_one task s us q late there goal =
    ap one_if (and_from (not (list_any (holds task s) us)) (list_any (has task.goal) us)
    (not_from_false (list_any (holds task s) us) (none_of (holds task s) us late)) (any_of (has task.goal) us q there goal))

-- both of these
pub record IsGood (task : Parts) (s : FlatState) (r : Row) : Type 0 where
  pub allowed : is_allowed task r ≡ true
  pub one : right task s r ≡ pos 1

pub sharp_good : (task : Parts) (s : FlatState) (q : ℕ) (r : Row) → q < length task.subgoals → holds task s q ≡ false → has task.goal q ≡ true → IsSharpened task s q r → IsGood task s r
sharp_good task s q r range late goal is =
    let n = length task.subgoals in
    let there : has (outside task is.set) q ≡ true = outside_has task is.set q ∙ and_from (has (range_with_len 0 n) q) (not (is.set q)) (numbers_have n q range) (not_from_false (is.set q) (stays_outside task s q is.set late is.least)) in
    subst (IsGood task s) (sym is.cut) (record {
      allowed = cut_allowed n q (outside task is.set) (outside_up task is.set) (outside_within task is.set) there;
      one = right_one task s (outside task is.set) q off there goal;
    })
  where
    off : (p : ℕ) → has (outside task is.set) p ≡ true → holds task s p ≡ false
    off p h =
        let out : not (is.set p) ≡ true = (and_parts (has (range_with_len 0 (length task.subgoals)) p) (not (is.set p)) (sym (outside_has task is.set p) ∙ h)).1 in
        false_from_ne_true (holds task s p) (λ there. both_ways (is.set p) (not-true (is.set p) out) (is.least.closed.true_ones p there))

pub single_good : (task : Parts) (s : FlatState) (q : ℕ) → q < length task.subgoals → holds task s q ≡ false → has task.goal q ≡ true → IsGood task s (row.Cut (q ∷ []))
single_good task s q range late goal = record {
  allowed = cut_allowed (length task.subgoals) q (q ∷ []) (ascending_cons q [] (All-nil (λ y. q < y)) ascending_nil) (All-cons (λ u. u < length task.subgoals) q [] range (All-nil (λ u. u < length task.subgoals))) itself;
  one = right_one task s (q ∷ []) q only itself goal;
}
  where
    itself : has (q ∷ []) q ≡ true
    itself = or_left (eqb q q) false (eq-eqb q q refl)

    only : (p : ℕ) → has (q ∷ []) p ≡ true → holds task s p ≡ false
    only p h =
        elim (or_cases (eqb q p) false h) [
          | inl same ↦ subst (λ k. holds task s k ≡ false) (eqb-true q p same) late
          | inr none ↦ absurd (false≢true none)
        ]
