-- The amounts of the basic columns.
use Rattle.std.proofs.Common.{◌≡◌, ◌≢◌, ℕ, zero, suc, ◌<◌, ◌≤◌, Bool, true, false, List, [], ◌∷◌, Some, None, length, drop, get_or, refl, sym, ap}
use Rattle.std.proofs.Common.{◌∙◌, arith, ⊎_elim}
use Rattle.std.specs.Prelude.{◌==◌, if◌then◌else◌, cond, nat_lt}
use Rattle.std.specs.List.{position, position_or_len}
use Rattle.std.proofs.lemmas.List.Sums.{fails_before_first}
use Rattle.std.proofs.lemmas.Bool.{cases_eq, cases_lt}
use Rattle.std.proofs.lemmas.Bool.Decides.{nat_tests}
use Rattle.np_frac.specs.Fractions.{Fraction, plus, times}
use Rattle.np_frac.specs.Field.{times_comm, times-one, plus-zero, plus_left_zero}
use Rattle.np_simplex.specs.Tableau.{nought, at, Line, blank, line_at, Tableau, basic_amount}
use Rattle.np_simplex.specs.Answers.{AtMost}
use Rattle.np_simplex.proofs.Sums.{total, single, total-plus, total-same, total-single, total-none, zero_times, one_is_some}
use Rattle.np_simplex.proofs.Amounts.{one, most_self}
use Rattle.std.proofs.lemmas.List.{get_or_past}
use Rattle.np_simplex.proofs.Pivots.{Solved, IsReached, single_same, single_other}

-- no item passes where none is found
pub none_passes : {X : Type 0} (p : X → Bool) (xs : List X) (k : ℕ) (d : X) → position p xs ≡ None → k < length xs → p (get_or xs k d) ≡ false
none_passes p xs k d e l = fails_before_first p xs k d (omega (arith, past (nat_lt (position_or_len p xs) (length xs)) refl e))
  where
    past : (b : Bool) → nat_lt (position_or_len p xs) (length xs) ≡ b → cond b (Some (position_or_len p xs)) None ≡ None
        → length xs ≤ position_or_len p xs
    past true f g = cc
    past false f g = grind (arith, nat_tests)

-- no two lines have one basic column
pub Distinct : List Line → Type 0
Distinct lines = (r s : ℕ) → r < length lines → s < length lines → (line_at lines r).basic ≡ (line_at lines s).basic → r ≡ s

-- a column that is basic in no line has no amount
pub not_basic : (amount : Line → Fraction) (lines : List Line) (k : ℕ) → ((s : ℕ) → s < length lines → (line_at lines s).basic ≢ k)
    → basic_amount amount lines k ≡ nought
not_basic amount [] k h = refl
not_basic amount (line ∷ lines) k h = split (line.basic == k) refl (not_basic amount lines k (λ s l. h (suc s) (omega arith)))
  where
    split : (b : Bool) → (line.basic == k) ≡ b → basic_amount amount lines k ≡ nought
        → (if b then amount line else basic_amount amount lines k) ≡ nought
    split true e f = absurd (h 0 (omega arith) (grind (arith, nat_tests)))
    split false e f = f

-- the amounts at a line's basic columns
abbrev pub paired : (Line → Fraction) → List Fraction → List Line → Fraction
paired amount xs [] = nought
paired amount xs (line ∷ lines) = plus (times (at xs line.basic) (amount line)) (paired amount xs lines)

-- the first line's amount stands apart from those of the others
apart : (amount : Line → Fraction) (line : Line) (lines : List Line) → basic_amount amount lines line.basic ≡ nought → (k : ℕ)
    → basic_amount amount (line ∷ lines) k ≡ plus (single line.basic (amount line) k) (basic_amount amount lines k)
apart amount line lines h k = ⊎_elim
    (λ e. same (line.basic == k) (grind (arith, nat_tests))
    ∙ sym (ap (λ a. plus (single line.basic (amount line) k) a) (ap (λ i. basic_amount amount lines i) (sym e) ∙ h)
    ∙ plus-zero (single line.basic (amount line) k) ∙ ap (λ i. single line.basic (amount line) i) (sym e) ∙ single_same line.basic (amount line)))
    (λ d. other (line.basic == k) (grind (arith, nat_tests))
    ∙ sym (ap (λ a. plus a (basic_amount amount lines k)) (single_other line.basic (amount line) k d) ∙ plus_left_zero (basic_amount amount lines k)))
    (cases_eq line.basic k)
  where
    same : (b : Bool) → b ≡ true → (if b then amount line else basic_amount amount lines k) ≡ amount line
    same true e = refl
    same false e = cc

    other : (b : Bool) → b ≡ false → (if b then amount line else basic_amount amount lines k) ≡ basic_amount amount lines k
    other true e = cc
    other false e = refl

-- the sum over the basic amounts goes line by line
pub basic_total : (amount : Line → Fraction) (xs : List Fraction) (lines : List Line) → Distinct lines
    → total xs (basic_amount amount lines) ≡ paired amount xs lines
unfolding Distinct
basic_total amount xs [] d = total-none xs (λ k. nought) (λ k. refl)
basic_total amount xs (line ∷ lines) d =
    total-same xs (basic_amount amount (line ∷ lines)) (λ k. plus (single line.basic (amount line) k) (basic_amount amount lines k))
    (apart amount line lines (not_basic amount lines line.basic
    (λ s l e. absurd (let f : 0 ≡ suc s = d 0 (suc s) (omega arith) (omega arith) (sym e) in cc))))
    ∙ total-plus xs (single line.basic (amount line)) (basic_amount amount lines)
    ∙ ap (λ a. plus a (total xs (basic_amount amount lines))) (total-single xs line.basic (amount line))
    ∙ ap (λ a. plus (times (at xs line.basic) (amount line)) a)
    (basic_total amount xs lines (λ r s l k e. let f : suc r ≡ suc s = d (suc r) (suc s) (omega arith)
    (omega arith) e in let g : r ≡ s = omega arith in g))

-- where the basic columns are 0
pub paired_none : (amount : Line → Fraction) (xs : List Fraction) (lines : List Line)
    → ((s : ℕ) → s < length lines → at xs (line_at lines s).basic ≡ nought) → paired amount xs lines ≡ nought
paired_none amount xs [] h = refl
paired_none amount xs (line ∷ lines) h =
    ap (λ a. plus (times a (amount line)) (paired amount xs lines)) (h 0 (omega arith))
    ∙ ap (λ a. plus a (paired amount xs lines)) (zero_times (amount line)) ∙ plus_left_zero (paired amount xs lines)
    ∙ paired_none amount xs lines (λ s l. h (suc s) (omega arith))

-- where one of them is 1 and the others are 0
pub paired_unit : (amount : Line → Fraction) (xs : List Fraction) (lines : List Line) (r : ℕ) → r < length lines
    → ((s : ℕ) → s < length lines → at xs (line_at lines s).basic ≡ single r one s) → paired amount xs lines ≡ amount (line_at lines r)
paired_unit amount xs [] r l h = absurd (omega arith)
paired_unit amount xs (line ∷ lines) zero l h =
    ap (λ a. plus (times a (amount line)) (paired amount xs lines)) (h 0 (omega arith))
    ∙ ap (λ a. plus (times one (amount line)) a) (paired_none amount xs lines (λ s k. h (suc s) (omega arith)))
    ∙ plus-zero (times one (amount line)) ∙ times_comm one (amount line) ∙ times-one (amount line)
paired_unit amount xs (line ∷ lines) (suc r) l h =
    ap (λ a. plus (times a (amount line)) (paired amount xs lines)) (h 0 (omega arith))
    ∙ ap (λ a. plus a (paired amount xs lines)) (zero_times (amount line)) ∙ plus_left_zero (paired amount xs lines)
    ∙ paired_unit amount xs lines r (omega arith) (λ s k. h (suc s) (omega arith))

-- basic amounts that aren't negative
pub basic_most : (amount : Line → Fraction) (lines : List Line) (k : ℕ) → ((s : ℕ) → s < length lines → AtMost nought (amount (line_at lines s)))
    → AtMost nought (basic_amount amount lines k)
basic_most amount [] k h = most_self nought
basic_most amount (line ∷ lines) k h = split (line.basic == k) (h 0 (omega arith)) (basic_most amount lines k (λ s l. h (suc s) (omega arith)))
  where
    split : (b : Bool) → AtMost nought (amount line) → AtMost nought (basic_amount amount lines k)
        → AtMost nought (if b then amount line else basic_amount amount lines k)
    split true f g = f
    split false f g = g

-- basic columns are distinct
pub distinct_reached : (m last : ℕ) (begin t : Tableau) → IsReached m last begin t → Distinct t.lines
unfolding Distinct
distinct_reached m last begin t h r s l k e = ⊎_elim (λ q. q)
    (λ d. absurd (one_is_some (sym (h.units r l r l ∙ single_same r one) ∙ ap (λ i. at (line_at t.lines r).numbers i) e ∙ h.units r l s k
    ∙ single_other r one s d)))
    (cases_eq r s)

-- ---- amounts that solve each line

-- an amount in one column, and the basic amounts
abbrev pub solution : ℕ → Fraction → (Line → Fraction) → Tableau → ℕ → Fraction
solution c x amount t k = plus (single c x k) (basic_amount amount t.lines k)

-- a line's sum
line_sum : (m last : ℕ) (begin t : Tableau) (c : ℕ) (x : Fraction) (amount : Line → Fraction) → IsReached m last begin t → (r : ℕ)
    → r < length t.lines → total (line_at t.lines r).numbers (solution c x amount t) ≡ plus (times (at (line_at t.lines r).numbers c) x)
    (amount (line_at t.lines r))
line_sum m last begin t c x amount h r l = let xs : List Fraction = (line_at t.lines r).numbers in
    total-plus xs (single c x) (basic_amount amount t.lines)
    ∙ ap (λ a. plus a (total xs (basic_amount amount t.lines))) (total-single xs c x)
    ∙ ap (λ a. plus (times (at xs c) x) a) (basic_total amount xs t.lines (distinct_reached m last begin t h)
    ∙ paired_unit amount xs t.lines r l (h.units r l))

-- the top line's sum
top_sum : (m last : ℕ) (begin t : Tableau) (c : ℕ) (x : Fraction) (amount : Line → Fraction) → IsReached m last begin t
    → total t.top (solution c x amount t) ≡ times (at t.top c) x
top_sum m last begin t c x amount h =
    total-plus t.top (single c x) (basic_amount amount t.lines)
    ∙ ap (λ a. plus a (total t.top (basic_amount amount t.lines))) (total-single t.top c x)
    ∙ ap (λ a. plus (times (at t.top c) x) a) (basic_total amount t.top t.lines (distinct_reached m last begin t h)
    ∙ paired_none amount t.top t.lines h.top_units)
    ∙ plus-zero (times (at t.top c) x)

-- what solves each line solves each line of the start
pub start_solved : (m last : ℕ) (begin t : Tableau) (c : ℕ) (x : Fraction) (amount : Line → Fraction) → IsReached m last begin t
    → ((r : ℕ) → r < length t.lines → plus (times (at (line_at t.lines r).numbers c) x) (amount (line_at t.lines r)) ≡ nought)
    → Solved begin.lines (solution c x amount t)
start_solved m last begin t c x amount h g = h.solved (solution c x amount t) (λ r l. line_sum m last begin t c x amount h r l ∙ g r l)

-- and has the same sum in both top lines
pub start_top : (m last : ℕ) (begin t : Tableau) (c : ℕ) (x : Fraction) (amount : Line → Fraction) → IsReached m last begin t
    → Solved begin.lines (solution c x amount t) → total begin.top (solution c x amount t) ≡ times (at t.top c) x
start_top m last begin t c x amount h g =
    sym (h.top_kept.is v ∙ ap (λ a. plus (total begin.top v) a) (total-none (drop m t.top) (λ j. total (line_at begin.lines j).numbers v) each)
    ∙ plus-zero (total begin.top v))
    ∙ top_sum m last begin t c x amount h
  where
    v : ℕ → Fraction
    v = solution c x amount t

    each : (j : ℕ) → total (line_at begin.lines j).numbers v ≡ nought
    each j = ⊎_elim (λ l. g j l) (λ k. ap (λ line. total line.numbers v) (get_or_past begin.lines j blank k)) (cases_lt j (length begin.lines))

-- the first line in which a column is basic
pub basic_found : (amount : Line → Fraction) (lines : List Line) (k i : ℕ) → i < length lines
    → ((j : ℕ) → j < i → ((line_at lines j).basic == k) ≡ false) → ((line_at lines i).basic == k) ≡ true
    → basic_amount amount lines k ≡ amount (line_at lines i)
basic_found amount [] k i l h e = absurd (omega arith)
basic_found amount (line ∷ lines) k zero l h e = split (line.basic == k) e
  where
    split : (b : Bool) → b ≡ true → (if b then amount line else basic_amount amount lines k) ≡ amount line
    split true f = refl
    split false f = cc
basic_found amount (line ∷ lines) k (suc i) l h e = split (line.basic == k) (h 0 (omega arith))
    ∙ basic_found amount lines k i (omega arith) (λ j b. h (suc j) (omega arith)) e
  where
    split : (b : Bool) → b ≡ false → (if b then amount line else basic_amount amount lines k) ≡ basic_amount amount lines k
    split true f = cc
    split false f = refl
