-- The watched needs: the place of the first need that is off says whether the step fires.
use Rattle.std.proofs.Common.{◌≡◌, ◌⊎◌, ℕ, zero, suc, ◌<◌, ◌≤◌, Bool, true, false, not, ◌&&◌, cond, List, [], ◌∷◌, ◌++◌, length, set, get_or, All, refl, sym, ap, ap₂, ◌∙◌, subst, inl, inr, arith, Option, Some, None}
use Rattle.std.specs.Prelude.{slice_get}
use Rattle.std.specs.List.{list_all}
use Rattle.std.proofs.lemmas.Bool.{cases_eq, cases_lt, and_from, and_parts, false≢true, cond_both}
use Rattle.std.specs.Option.{option_map_or}
use Rattle.std.proofs.lemmas.List.{get_or-set_same, get_or-set_other, length-set}
use Rattle.std.proofs.lemmas.Option.{slice_get_within, slice_get-get_or, get_or_from_slice_get}
use Rattle.np_flat.specs.declared.parts.Parts.{Parts}
use Rattle.np_flat.specs.Achieving.{achieved_by}
use Rattle.np_relax.specs.Needing.{needs_of}
use Rattle.np_relax.specs.Closed.{on}
use Rattle.np_relax.specs.Work.{achieved, turned, fires, fired, IsWatching}
use Rattle.np_relax.proofs.Achieved.{achieved_has, achieved_within}
use Rattle.np_relax.proofs.Works.{turned_grown, turned_all, all_on}

-- all are on where each place's is
pub all_places : (p : ℕ → Bool) (xs : List ℕ) → ((i : ℕ) → i < length xs → p (get_or xs i 0) ≡ true) → list_all p xs ≡ true
all_places p [] h = refl
all_places p (x ∷ xs) h = and_from (p x) (list_all p xs) (h 0 (omega arith)) (all_places p xs (λ i lt. h (suc i) (omega arith)))

-- and each place's is where all are
pub each_place : (p : ℕ → Bool) (xs : List ℕ) → list_all p xs ≡ true → (i : ℕ) → i < length xs → p (get_or xs i 0) ≡ true
each_place p [] h i lt = absurd (omega arith)
each_place p (x ∷ xs) h zero lt = (and_parts (p x) (list_all p xs) h).0
each_place p (x ∷ xs) h (suc i) lt = each_place p xs (and_parts (p x) (list_all p xs) h).1 i (omega arith)

-- what is on already isn't turned on again
pub turned_same : (qs : List ℕ) (can : List Bool) (work : List ℕ) → list_all (on can) qs ≡ true → turned qs can work ≡ (can, work)
turned_same [] can work h = refl
turned_same (q ∷ qs) can work h =
    let parts = and_parts (on can q) (list_all (on can) qs) h in
    ap (λ b. cond b (turned qs can work) (turned qs (set can q true) (work ++ q ∷ []))) parts.0 ∙ turned_same qs can work parts.1

-- the places still say so when more is on
pub watching_grows : (task : Parts) (can : List Bool) (watched : List (Option ℕ)) (more : List Bool) → ((q : ℕ) → on can q ≡ true → on more q ≡ true)
    → IsWatching task can watched → IsWatching task more watched
watching_grows task can watched more kept w = record {
  count = w.count;
  before = λ n p i at lt. kept (get_or (needs_of task n) i 0) (w.before n p i at lt);
  none = λ n q at by. kept q (w.none n q at by);
}

some_one : (p q : ℕ) → Some p ≡ Some q → p ≡ q
some_one p q e = ap (λ (o : Option ℕ). option_map_or (λ x. x) o 0) e

some_none : (p : ℕ) → Some p ≡ None → ⊥
some_none p e = false≢true (ap (λ (o : Option ℕ). option_map_or (λ x. false) o true) e)

-- what is read after a write: what was written, or what was there
set_read : (xs : List (Option ℕ)) (i j : ℕ) (a y : Option ℕ) → slice_get (set xs i a) j ≡ Some y → ((j ≡ i) × (y ≡ a)) ⊎ (slice_get xs j ≡ Some y)
set_read xs i j a y at =
    let read : get_or (set xs i a) j a ≡ y = get_or_from_slice_get (set xs i a) j y a at in
    let within : j < length xs = subst (λ k. j < k) (length-set xs i a) (slice_get_within (set xs i a) j y at) in
    elim (cases_eq j i) [
      | inl same ↦ inl (same, sym read ∙ ap (λ k. get_or (set xs i a) k a) same ∙ get_or-set_same xs i a a (subst (λ k. k < length xs) same within))
      | inr ne ↦ inr (slice_get-get_or xs j a within ∙ ap (λ (o : Option ℕ). Some o) (sym (get_or-set_other xs i j a a ne) ∙ read))
    ]

-- one step's place written
watching_set : (task : Parts) (can : List Bool) (watched : List (Option ℕ)) (n : ℕ) (a : Option ℕ) → IsWatching task can watched
    → ((p i : ℕ) → Some p ≡ a → i < p → on can (get_or (needs_of task n) i 0) ≡ true) → ((q : ℕ) → None ≡ a → achieved_by task n q ≡ true → on can q ≡ true)
    → IsWatching task can (set watched n a)
watching_set task can watched n a w before none = record {
  count = length-set watched n a ∙ w.count;
  before = λ m p i at lt. elim (set_read watched n m a (Some p) at) [
    | inl here ↦ subst (λ k. on can (get_or (needs_of task k) i 0) ≡ true) (sym here.0) (before p i here.1 lt)
    | inr there ↦ w.before m p i there lt
  ];
  none = λ m q at by. elim (set_read watched n m a None at) [
    | inl here ↦ none q here.1 (subst (λ k. achieved_by task k q ≡ true) here.0 by)
    | inr there ↦ w.none m q there by
  ];
}

pub watched_place : (task : Parts) (can : List Bool) (watched : List (Option ℕ)) (n place : ℕ) → IsWatching task can watched
    → ((i : ℕ) → i < place → on can (get_or (needs_of task n) i 0) ≡ true) → IsWatching task can (set watched n (Some place))
watched_place task can watched n place w before =
    watching_set task can watched n (Some place) w (λ p i e lt. before i (subst (λ k. i < k) (some_one p place e) lt)) (λ q e by. absurd (some_none place (sym e)))

-- all needs before the place that a look ends at are on
pub looked : (task : Parts) (can shown : List Bool) (watched : List (Option ℕ)) (needs : List ℕ) (n from place : ℕ) → IsWatching task can watched → slice_get watched n ≡ Some (Some from)
    → shown ≡ can → needs ≡ needs_of task n → ((i : ℕ) → from ≤ i → i < place → on shown (get_or needs i 0) ≡ true) → (i : ℕ) → i < place → on can (get_or (needs_of task n) i 0) ≡ true
looked task can shown watched needs n from place w at same are on_from i lt = elim (cases_lt i from) [
  | inl less ↦ w.before n from i at less
  | inr more ↦ sym (ap₂ (λ bs xs. on bs (get_or xs i 0)) same are) ∙ on_from i more lt
]

pub fires_all : (task : Parts) (removed can : List Bool) (needs : List ℕ) (n place : ℕ) (out : Bool) → slice_get removed n ≡ Some out → out ≡ false → needs ≡ needs_of task n → length needs ≤ place
    → ((i : ℕ) → i < place → on can (get_or (needs_of task n) i 0) ≡ true) → fires task removed can n ≡ true
fires_all task removed can needs n place out at off are end before =
    and_from (not (on removed n)) (list_all (on can) (needs_of task n))
    (ap not (get_or_from_slice_get removed n out false at ∙ off))
    (all_places (on can) (needs_of task n) (λ i lt. before i (through lt (subst (λ xs. length xs ≤ place) are end))))
  where
    through : {x y z : ℕ} → x < y → y ≤ z → x < z
    through h k = omega arith

-- a step that is done already changes nothing
pub done_same : (task : Parts) (removed can : List Bool) (work : List ℕ) (watched : List (Option ℕ)) (n : ℕ) → IsWatching task can watched → slice_get watched n ≡ Some None
    → (can, work) ≡ fired task removed n can work
done_same task removed can work watched n w at =
    cond_both (fires task removed can n) (turned (achieved task n) can work) (can, work) (λ r. (can, work) ≡ r)
    (λ f. sym (turned_same (achieved task n) can work (all_on can (achieved task n) (λ q h. w.none n q at (sym (achieved_has task n q) ∙ h)))))
    (λ f. refl)

-- nor does one that is removed
pub removed_same : (task : Parts) (removed can : List Bool) (work : List ℕ) (n : ℕ) (out : Bool) → slice_get removed n ≡ Some out → out ≡ true → (can, work) ≡ fired task removed n can work
removed_same task removed can work n out at gone =
    sym (ap (λ b. cond b (turned (achieved task n) can work) (can, work)) (ap (λ b. not b && list_all (on can) (needs_of task n)) (get_or_from_slice_get removed n out false at ∙ gone)))

-- and the step is done
pub watched_done : (task : Parts) (can : List Bool) (work numbers : List ℕ) (watched : List (Option ℕ)) (n : ℕ) (after : List Bool × List ℕ) → length can ≡ length task.subgoals
    → numbers ≡ achieved task n → IsWatching task can watched → after ≡ turned numbers can work → IsWatching task after.0 (set watched n None)
watched_done task can work numbers watched n after count are w e =
    subst (λ r. IsWatching task r.0 (set watched n None)) (sym (e ∙ ap (λ xs. turned xs can work) are))
    (watching_set task (turned (achieved task n) can work).0 watched n None
    (watching_grows task can watched (turned (achieved task n) can work).0 (turned_grown (achieved task n) can work within).kept w)
    (λ p i h lt. absurd (some_none p h))
    (λ q h by. turned_all (achieved task n) can work within q (achieved_has task n q ∙ by)))
  where
    within : All (λ q. q < length can) (achieved task n)
    within = subst (λ k. All (λ q. q < k) (achieved task n)) (sym count) (achieved_within task n)

pub read_there : (watched : List (Option ℕ)) (n : ℕ) (v w : Option ℕ) → n < length watched → v ≡ get_or watched n v → v ≡ w → slice_get watched n ≡ Some w
read_there watched n v w lt e is = slice_get-get_or watched n v lt ∙ ap (λ (o : Option ℕ). Some o) (sym e ∙ is)

-- each step waits for its first need at first
pub watching_first : (task : Parts) (can : List Bool) (watched : List (Option ℕ)) → length watched ≡ length task.steps → All (λ w. w ≡ Some 0) watched → IsWatching task can watched
watching_first task can watched count first = record {
  count = count;
  before = λ n p i at lt. absurd (none_less i p (some_one p 0 (is n (Some p) at)) lt);
  none = λ n q at by. absurd (some_none 0 (sym (is n None at)));
}
  where
    is : (n : ℕ) (w : Option ℕ) → slice_get watched n ≡ Some w → w ≡ Some 0
    is n w at = sym (get_or_from_slice_get watched n w None at) ∙ first n None (slice_get_within watched n w at)

    none_less : (i p : ℕ) → p ≡ 0 → i < p → ⊥
    none_less i p e lt = omega arith
