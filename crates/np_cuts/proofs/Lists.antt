-- The list of the cuts, as it is made.
use Rattle.std.proofs.Common.{◌≡◌, ℕ, zero, suc, ◌+◌, ◌<◌, Bool, true, false, not, eqb, List, [], ◌∷◌, ◌++◌, length, get_or, set, take, All, refl, sym, ap, ◌∙◌, subst, inl, inr, arith, rules, eq-eqb}
use Rattle.std.specs.Prelude.{pos, filter, if◌then◌else◌}
use Rattle.std.specs.List.{range_with_len}
use Rattle.std.proofs.lemmas.Bool.{cases_lt, eqb-true, or_cases, or_left, or_right, cond_both, not-true, false≢true}
use Rattle.std.proofs.lemmas.List.{take_more, get_or-set_same, get_or-set_other}
use Rattle.std.proofs.lemmas.List.Elements.{All-nil, All-cons, All-append, All-head, All-tail, All-weaker, filter-append}
use Rattle.np_flat.specs.declared.state.FlatState.{FlatState}
use Rattle.np_flat.specs.declared.parts.Parts.{Parts}
use Rattle.np_flat.specs.Flats.{IsFlat}
use Rattle.np_flat.specs.States.{has, holds}
use Rattle.np_relax.specs.Closed.{IsClosed, IsLeast, on}
use Rattle.std.proofs.lemmas.Option.{slice_get_within}
use Rattle.np_count.specs.declared.proof.Row.{Row}
use Rattle.np_count.specs.declared.proof.Row.TheVariants as row
use Rattle.np_count.specs.Rows.{right, is_allowed}
use Rattle.np_cuts.specs.Cuts.{counts, outside, single_cuts, false_ones, IsSharpened, AreSharpened, AreCuts}
use Rattle.np_cuts.proofs.Sharp.{IsGood, sharp_good, single_good}

-- only the task's own steps count
least_same : (task : Parts) (s : FlatState) (f g within : ℕ → Bool) → ((n : ℕ) → n < length task.steps → f n ≡ g n) → IsLeast task s f within → IsLeast task s g within
least_same task s f g within same is = record {
  closed = moved f g within same is.closed;
  least = λ others closed. is.least others (moved g f others (λ n h. sym (same n h)) closed);
}
  where
    moved : (f g within : ℕ → Bool) → ((n : ℕ) → n < length task.steps → f n ≡ g n) → IsClosed task s f within → IsClosed task s g within
    moved f g within same closed = record {
      true_ones = closed.true_ones;
      achieved = λ n q step at kept needs by. closed.achieved n q step at (same n (slice_get_within task.steps n step at) ∙ kept) needs by;
    }

pub is_sharpened : (task : Parts) (s : FlatState) (q : ℕ) (removed can : List Bool) (r : Row) (members : List ℕ) → ((n : ℕ) → n < length task.steps → on removed n ≡ counts task q n)
    → IsLeast task s (on removed) (on can) → members ≡ outside task (on can) → r ≡ row.Cut members → IsSharpened task s q r
is_sharpened task s q removed can r members counted is e cut = record {
  set = on can;
  least = least_same task s (on removed) (counts task q) (on can) counted is;
  cut = cut ∙ ap (λ us. row.Cut us) e;
}

-- one more number
pub counted_more : (f : ℕ → Bool) (bits after : List Bool) (i : ℕ) (b : Bool) → i < length bits → ((n : ℕ) → n < i → on bits n ≡ f n) → after ≡ set bits i b → b ≡ f i → (n : ℕ) → n < i + 1 → on after n ≡ f n
counted_more f bits after i b range before e is n h =
    elim (cases_lt n i) [
      | inl less ↦ ap (λ xs. on xs n) e ∙ get_or-set_other bits i n b false (omega arith) ∙ before n less
      | inr more ↦ let same : i ≡ n = omega arith in ap (λ xs. on xs n) e ∙ subst (λ k. on (set bits i b) k ≡ f k) same (get_or-set_same bits i b false range ∙ is)
    ]

counting_more : (a n j : ℕ) → a + n ≡ j → range_with_len a (n + 1) ≡ range_with_len a n ++ j ∷ []
counting_more a n j e = let more : n + 1 ≡ suc n = omega arith in ap (range_with_len a) more ∙ last a n j e
  where
    last : (a n j : ℕ) → a + n ≡ j → range_with_len a (suc n) ≡ range_with_len a n ++ j ∷ []
    last a zero j e = let same : a ≡ j = omega arith in ap (λ k. k ∷ []) same
    last a (suc n) j e = ap (λ l. a ∷ l) (last (a + 1) n j (omega arith))

pub filter_push : (f : ℕ → Bool) (xs : List ℕ) (x : ℕ) → filter f (xs ++ x ∷ []) ≡ filter f xs ++ (if f x then x ∷ [] else [])
filter_push f xs x = simp filter-append

append_none : {X : Type 0} (xs : List X) → xs ++ [] ≡ xs
append_none xs = search rules

pub filter_yes : (f : ℕ → Bool) (n : ℕ) (xs ys : List ℕ) → f n ≡ true → xs ≡ filter f (range_with_len 0 n) → ys ≡ xs ++ n ∷ [] → ys ≡ filter f (range_with_len 0 (n + 1))
filter_yes f n xs ys h e push =
    push ∙ ap (λ zs. zs ++ n ∷ []) e ∙ sym (ap (filter f) (counting_more 0 n n (omega arith)) ∙ filter_push f (range_with_len 0 n) n ∙ ap (λ b. filter f (range_with_len 0 n) ++ (if b then n ∷ [] else [])) h)

pub filter_no : (f : ℕ → Bool) (n : ℕ) (xs ys : List ℕ) → f n ≡ false → xs ≡ filter f (range_with_len 0 n) → ys ≡ xs → ys ≡ filter f (range_with_len 0 (n + 1))
filter_no f n xs ys h e same =
    same ∙ e ∙ sym (ap (filter f) (counting_more 0 n n (omega arith)) ∙ filter_push f (range_with_len 0 n) n ∙ ap (λ b. filter f (range_with_len 0 n) ++ (if b then n ∷ [] else [])) h ∙ append_none (filter f (range_with_len 0 n)))

-- one more of the goal
falses_more : (task : Parts) (s : FlatState) (goal : List ℕ) (i d : ℕ) (b : Bool) → i < length goal → holds task s (get_or goal i d) ≡ b
    → false_ones task s (take (i + 1) goal) ≡ false_ones task s (take i goal) ++ (if not b then get_or goal i d ∷ [] else [])
falses_more task s goal i d b h is =
    ap (false_ones task s) (take_more goal i d h) ∙ filter_push (λ q. not (holds task s q)) (take i goal) (get_or goal i d)
    ∙ ap (λ c. false_ones task s (take i goal) ++ (if not c then get_or goal i d ∷ [] else [])) is

pub falses_yes : (task : Parts) (s : FlatState) (goal : List ℕ) (i d : ℕ) → i < length goal → holds task s (get_or goal i d) ≡ false → false_ones task s (take (i + 1) goal) ≡ false_ones task s (take i goal) ++ get_or goal i d ∷ []
falses_yes task s goal i d h late = falses_more task s goal i d false h late

pub falses_no : (task : Parts) (s : FlatState) (goal : List ℕ) (i d : ℕ) → i < length goal → holds task s (get_or goal i d) ≡ true → false_ones task s (take (i + 1) goal) ≡ false_ones task s (take i goal)
falses_no task s goal i d h early = falses_more task s goal i d true h early ∙ append_none (false_ones task s (take i goal))

pub singles_push : (qs : List ℕ) (q : ℕ) → single_cuts (qs ++ q ∷ []) ≡ single_cuts qs ++ row.Cut (q ∷ []) ∷ []
singles_push [] q = refl
singles_push (p ∷ ps) q = ap (λ rs. row.Cut (p ∷ []) ∷ rs) (singles_push ps q)

pub sharpened_push : (task : Parts) (s : FlatState) (qs : List ℕ) (rs : List Row) (q : ℕ) (r : Row) → AreSharpened task s qs rs → IsSharpened task s q r → AreSharpened task s (qs ++ q ∷ []) (rs ++ r ∷ [])
sharpened_push task s [] [] q r are is = (is, tt)
sharpened_push task s [] (v ∷ vs) q r are is = absurd are
sharpened_push task s (p ∷ ps) [] q r are is = absurd are
sharpened_push task s (p ∷ ps) (v ∷ vs) q r are is = (are.0, sharpened_push task s ps vs q r are.1 is)

-- all are allowed and have the right side 1
abbrev IsFalseGoal : Parts → FlatState → ℕ → Type 0
IsFalseGoal task s q = (q < length task.subgoals) × (holds task s q ≡ false) × (has task.goal q ≡ true)

singles_good : (task : Parts) (s : FlatState) (qs : List ℕ) → ((q : ℕ) → has qs q ≡ true → IsFalseGoal task s q) → All (IsGood task s) (single_cuts qs)
singles_good task s [] of = All-nil (IsGood task s)
singles_good task s (q ∷ qs) of =
    let here = of q (or_left (eqb q q) (has qs q) (eq-eqb q q refl)) in
    All-cons (IsGood task s) (row.Cut (q ∷ [])) (single_cuts qs) (single_good task s q here.0 here.1 here.2) (singles_good task s qs (λ p h. of p (or_right (eqb q p) (has qs p) h)))

sharps_good : (task : Parts) (s : FlatState) (qs : List ℕ) (rs : List Row) → ((q : ℕ) → has qs q ≡ true → IsFalseGoal task s q) → AreSharpened task s qs rs → All (IsGood task s) rs
sharps_good task s [] [] of are = All-nil (IsGood task s)
sharps_good task s [] (v ∷ vs) of are = absurd are
sharps_good task s (p ∷ ps) [] of are = absurd are
sharps_good task s (p ∷ ps) (v ∷ vs) of are =
    let here = of p (or_left (eqb p p) (has ps p) (eq-eqb p p refl)) in
    All-cons (IsGood task s) v vs (sharp_good task s p v here.0 here.1 here.2 are.0) (sharps_good task s ps vs (λ q h. of q (or_right (eqb p q) (has ps q) h)) are.1)

within_of : (m : ℕ) (xs : List ℕ) → All (λ p. p < m) xs → (p : ℕ) → has xs p ≡ true → p < m
within_of m [] all p h = absurd (false≢true h)
within_of m (x ∷ xs) all p h =
    elim (or_cases (eqb x p) (has xs p) h) [
      | inl same ↦ subst (λ k. k < m) (eqb-true x p same) (All-head (λ p. p < m) x xs all)
      | inr later ↦ within_of m xs (All-tail (λ p. p < m) x xs all) p later
    ]

false_there : (task : Parts) (s : FlatState) (qs : List ℕ) (q : ℕ) → has (false_ones task s qs) q ≡ true → (holds task s q ≡ false) × (has qs q ≡ true)
false_there task s [] q h = absurd (false≢true h)
false_there task s (p ∷ ps) q h =
    cond_both (not (holds task s p)) (p ∷ false_ones task s ps) (false_ones task s ps) (λ xs. has xs q ≡ true → (holds task s q ≡ false) × (has (p ∷ ps) q ≡ true))
    (λ e i. elim (or_cases (eqb p q) (has (false_ones task s ps) q) i) [
      | inl same ↦ (subst (λ k. holds task s k ≡ false) (eqb-true p q same) (not-true (holds task s p) e), or_left (eqb p q) (has ps q) same)
      | inr later ↦ let rest = false_there task s ps q later in (rest.0, or_right (eqb p q) (has ps q) rest.1)
    ])
    (λ e i. let rest = false_there task s ps q i in (rest.0, or_right (eqb p q) (has ps q) rest.1)) h

pub are_cuts : (task : Parts) (s : FlatState) (rows sharps : List Row) → IsFlat task → rows ≡ single_cuts (false_ones task s task.goal) ++ sharps → AreSharpened task s (false_ones task s task.goal) sharps → AreCuts task s rows
are_cuts task s rows sharps flat e are =
    let good : All (IsGood task s) rows = subst (All (IsGood task s)) (sym e) (All-append (IsGood task s) (single_cuts (false_ones task s task.goal)) sharps (singles_good task s (false_ones task s task.goal) of) (sharps_good task s (false_ones task s task.goal) sharps of are)) in
    record {
      sharpened = sharps;
      all = e;
      are = are;
      allowed = All-weaker (IsGood task s) (λ r. is_allowed task r ≡ true) (λ r g. g.allowed) rows good;
      right_sides = All-weaker (IsGood task s) (λ r. right task s r ≡ pos 1) (λ r g. g.one) rows good;
    }
  where
    of : (q : ℕ) → has (false_ones task s task.goal) q ≡ true → IsFalseGoal task s q
    of q h = let f = false_there task s task.goal q h in (within_of (length task.subgoals) task.goal flat.goal.within q f.1, f.0, f.1)

pub sharp_yes : (task : Parts) (s : FlatState) (goal : List ℕ) (i d : ℕ) (rs after : List Row) (r : Row) → i < length goal → holds task s (get_or goal i d) ≡ false → AreSharpened task s (false_ones task s (take i goal)) rs → IsSharpened task s (get_or goal i d) r
    → after ≡ rs ++ r ∷ [] → AreSharpened task s (false_ones task s (take (i + 1) goal)) after
sharp_yes task s goal i d rs after r h late are is e =
    subst (AreSharpened task s (false_ones task s (take (i + 1) goal))) (sym e)
    (subst (λ qs. AreSharpened task s qs (rs ++ r ∷ [])) (sym (falses_yes task s goal i d h late)) (sharpened_push task s (false_ones task s (take i goal)) rs (get_or goal i d) r are is))

pub sharp_no : (task : Parts) (s : FlatState) (goal : List ℕ) (i d : ℕ) (rs after : List Row) → i < length goal → holds task s (get_or goal i d) ≡ true → AreSharpened task s (false_ones task s (take i goal)) rs
    → after ≡ rs → AreSharpened task s (false_ones task s (take (i + 1) goal)) after
sharp_no task s goal i d rs after h early are e =
    subst (AreSharpened task s (false_ones task s (take (i + 1) goal))) (sym e) (subst (λ qs. AreSharpened task s qs rs) (sym (falses_no task s goal i d h early)) are)
