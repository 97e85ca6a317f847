-- The first tableau, and what every run keeps.
use Rattle.std.proofs.Common.{◌≡◌, ◌≢◌, ℕ, zero, suc, ◌+◌, ◌<◌, ◌≤◌, Bool, true, false, ℤ, List, [], ◌∷◌, ◌++◌, Option, Some, None, pos, length, map}
use Rattle.std.proofs.Common.{take, get_or, refl, sym, ap, subst, ◌∙◌, arith, ⊎_elim}
use Rattle.std.specs.Prelude.{◌==◌, if◌then◌else◌}
use Rattle.std.specs.List.{range_with_len}
use Rattle.std.specs.Ordering.{is_gt, int_cmp}
use Rattle.std.proofs.lemmas.List.{length-map, length-take, get_or-append-add, get_or_append_left, get_or_past, drop_at}
use Rattle.std.proofs.lemmas.List.FromFn.{length-map-range_with_len, get_or-map-range_with_len}
use Rattle.std.proofs.lemmas.List.Quantifiers.{position-Some}
use Rattle.std.proofs.lemmas.Bool.{cases_lt, cases_eq}
use Rattle.std.proofs.lemmas.Bool.Decides.{nat_tests}
use Rattle.std.proofs.lemmas.Int.{ints}
use Rattle.np_frac.specs.Fractions.{Fraction, whole, plus, times}
use Rattle.np_frac.specs.Field.{times_zero, plus-zero, plus_left_zero}
use Rattle.np_frac.specs.Order.{whole_cmp}
use Rattle.np_simplex.specs.Answers.{AtMost}
use Rattle.np_simplex.specs.Tableau.{nought, at, is_above, blank, line_at, Tableau, entering, leaving, next_from, next_of, next, turned, run, unit}
use Rattle.np_simplex.specs.Tableau.{column, line_of, start}
use Rattle.np_simplex.proofs.Sums.{total, single, total_nothing, total_one, zero_times}
use Rattle.np_simplex.proofs.Amounts.{one}
use Rattle.np_simplex.proofs.Least.{LeavingIs, leaving_is}
use Rattle.np_simplex.proofs.Pivots.{mixed, IsReached, single_same, single_other, pivot_reached}

-- the line of a step at the start
pub start_line : (rows : List (List ℤ)) (right : List ℤ) (costs : List ℕ) (j : ℕ) → j < length costs
    → line_at (start rows right costs).lines j ≡ line_of rows costs j
start_line rows right costs j l = get_or-map-range_with_len (line_of rows costs) 0 (length costs) j j blank l (omega arith)

-- there is none past the steps
pub start_past : (rows : List (List ℤ)) (right : List ℤ) (costs : List ℕ) (j : ℕ) → length costs ≤ j
    → line_at (start rows right costs).lines j ≡ blank
start_past rows right costs j l = get_or_past (map (line_of rows costs) (range_with_len 0 (length costs))) j blank
    (omega (arith, length-map-range_with_len (line_of rows costs) 0 (length costs)))

-- how many lines there are
pub start_lines : (rows : List (List ℤ)) (right : List ℤ) (costs : List ℕ) → length (start rows right costs).lines ≡ length costs
start_lines rows right costs = length-map-range_with_len (line_of rows costs) 0 (length costs)

-- ---- the numbers of a step's line

pub length-column : (rows : List (List ℤ)) (j : ℕ) → length (column rows j) ≡ length rows
length-column rows j = length-map rows (λ row. whole (get_or row j (pos 0)))

pub length-unit : (n j : ℕ) → length (unit n j) ≡ n
length-unit n j = length-map-range_with_len (λ k. if k == j then whole (pos 1) else nought) 0 n

-- a test is 1 in its own place
at_test : (j k : ℕ) → (if k == j then whole (pos 1) else nought) ≡ single j one k
at_test j k = ⊎_elim
    (λ e. split (k == j) (grind (arith, nat_tests)) ∙ sym (ap (λ i. single j one i) e ∙ single_same j one))
    (λ d. other (k == j) (grind (arith, nat_tests)) ∙ sym (single_other j one k (λ e. d (sym e))))
    (cases_eq k j)
  where
    split : (b : Bool) → b ≡ true → (if b then whole (pos 1) else nought) ≡ whole (pos 1)
    split true e = refl
    split false e = cc

    other : (b : Bool) → b ≡ false → (if b then whole (pos 1) else nought) ≡ nought
    other true e = cc
    other false e = refl

pub at-unit : (n j k : ℕ) → k < n → at (unit n j) k ≡ single j one k
at-unit n j k l = get_or-map-range_with_len (λ i. if i == j then whole (pos 1) else nought) 0 n k k nought l (omega arith) ∙ at_test j k

pub past-unit : (n j k : ℕ) → n ≤ k → at (unit n j) k ≡ nought
past-unit n j k l = get_or_past (unit n j) k nought (omega (arith, length-unit n j))

-- a number in a list's second part
at_second : (xs ys : List Fraction) (m k : ℕ) → length xs ≡ m → at (xs ++ ys) (m + k) ≡ at ys k
at_second xs ys m k e = ap (λ i. at (xs ++ ys) (i + k)) (sym e) ∙ get_or-append-add xs ys k nought

-- a step's number in a step's column
pub at-step : (rows : List (List ℤ)) (costs : List ℕ) (j k : ℕ) → k < length costs
    → at (line_of rows costs j).numbers (length rows + k) ≡ single j one k
at-step rows costs j k l =
    at_second (column rows j) (unit (length costs) j ++ whole (pos (get_or costs j 0)) ∷ []) (length rows) k (length-column rows j)
    ∙ get_or_append_left (unit (length costs) j) (whole (pos (get_or costs j 0)) ∷ []) nought k (omega (arith, length-unit (length costs) j))
    ∙ at-unit (length costs) j k l

-- its last number is its cost
pub at_cost : (rows : List (List ℤ)) (costs : List ℕ) (j : ℕ)
    → at (line_of rows costs j).numbers (length rows + length costs) ≡ whole (pos (get_or costs j 0))
at_cost rows costs j =
    at_second (column rows j) (unit (length costs) j ++ whole (pos (get_or costs j 0)) ∷ []) (length rows) (length costs) (length-column rows j)
    ∙ ap (λ i. at (unit (length costs) j ++ whole (pos (get_or costs j 0)) ∷ []) i) (let e : length costs ≡ length costs + 0 = omega arith in e)
    ∙ at_second (unit (length costs) j) (whole (pos (get_or costs j 0)) ∷ []) (length costs) 0 (length-unit (length costs) j)

-- zeros are 0 in each column
at_zeros : (a n k : ℕ) → at (map (λ i. nought) (range_with_len a n)) k ≡ nought
at_zeros a zero k = refl
at_zeros a (suc n) zero = refl
at_zeros a (suc n) (suc k) = at_zeros (a + 1) n k

-- the top line is 0 past the rows
pub at_top : (rows : List (List ℤ)) (right : List ℤ) (costs : List ℕ) (k : ℕ) → length right ≡ length rows
    → at (start rows right costs).top (length rows + k) ≡ nought
at_top rows right costs k e =
    at_second (map whole right) (map (λ i. nought) (range_with_len 0 (length costs + 1))) (length rows) k (length-map right whole ∙ e)
    ∙ at_zeros 0 (length costs + 1) k

-- whole numbers that aren't negative are at least 0
pub whole_most : (n : ℕ) → AtMost nought (whole (pos n))
whole_most n = record { is = ap is_gt (whole_cmp (pos 0) (pos n)) ∙ none_below n }
  where
    none_below : (n : ℕ) → is_gt (int_cmp (pos 0) (pos n)) ≡ false
    none_below n = grind (arith, ints)

-- ---- the start

-- the first tableau is reached
pub start_reached : (rows : List (List ℤ)) (right : List ℤ) (costs : List ℕ) → length right ≡ length rows
    → IsReached (length rows) (length rows + length costs) (start rows right costs) (start rows right costs)
start_reached rows right costs e = record {
  count = refl;
  below = λ s l. subst (λ line. line.basic < length rows + length costs) (sym (start_line rows right costs s (few s l))) (omega (arith, few s l));
  units = λ r l s k. ap (λ line. at line.numbers (line_at (start rows right costs).lines s).basic) (start_line rows right costs r (few r l))
      ∙ ap (λ line. at (line_of rows costs r).numbers line.basic) (start_line rows right costs s (few s k)) ∙ at-step rows costs r s (few s k);
  top_units = λ s l. ap (λ line. at (start rows right costs).top line.basic) (start_line rows right costs s (few s l)) ∙ at_top rows right costs s e;
  not_negative = λ r l. subst (λ a. AtMost nought a)
      (sym (ap (λ line. at line.numbers (length rows + length costs)) (start_line rows right costs r (few r l)) ∙ at_cost rows costs r))
      (whole_most (get_or costs r 0));
  solved = λ v h. h;
  kept = λ r l. record { is = λ v. lines_kept r (few r l) v };
  top_kept = record {
    is = λ v. sym (ap (λ a. plus (total (start rows right costs).top v) a) (top_nothing v)
        ∙ plus-zero (total (start rows right costs).top v));
  };
}
  where
    few : (s : ℕ) → s < length (start rows right costs).lines → s < length costs
    few s l = omega (arith, start_lines rows right costs)

    sums : (ℕ → Fraction) → ℕ → Fraction
    sums v j = total (line_at (start rows right costs).lines j).numbers v

    rest : (r : ℕ) → List Fraction
    rest r = unit (length costs) r ++ whole (pos (get_or costs r 0)) ∷ []

    rest_one : (r : ℕ) → r < length costs → at (rest r) r ≡ one
    rest_one r l = get_or_append_left (unit (length costs) r) (whole (pos (get_or costs r 0)) ∷ []) nought r
        (omega (arith, length-unit (length costs) r)) ∙ at-unit (length costs) r r l ∙ single_same r one

    rest_none : (r : ℕ) (v : ℕ → Fraction) (k : ℕ) → k ≢ r → times (at (rest r) k) (sums v k) ≡ nought
    rest_none r v k d = ⊎_elim
        (λ l. ap (λ a. times a (sums v k)) (get_or_append_left (unit (length costs) r) (whole (pos (get_or costs r 0)) ∷ []) nought k
        (omega (arith, length-unit (length costs) r)) ∙ at-unit (length costs) r k l ∙ single_other r one k (λ q. d (sym q)))
        ∙ zero_times (sums v k))
        (λ g. ap (λ line. times (at (rest r) k) (total line.numbers v)) (start_past rows right costs k g) ∙ times_zero (at (rest r) k))
        (cases_lt k (length costs))

    lines_kept : (r : ℕ) → r < length costs → (v : ℕ → Fraction)
        → total (line_at (start rows right costs).lines r).numbers v ≡ plus nought
        (mixed (length rows) (start rows right costs).lines (line_at (start rows right costs).lines r).numbers v)
    lines_kept r l v =
        sym (plus_left_zero (mixed (length rows) (start rows right costs).lines (line_at (start rows right costs).lines r).numbers v)
        ∙ ap (λ line. mixed (length rows) (start rows right costs).lines line.numbers v) (start_line rows right costs r l)
        ∙ ap (λ xs. total xs (sums v)) (drop_at (column rows r) (rest r) (length rows) (length-column rows r))
        ∙ total_one (rest r) r (sums v) (rest_one r l) (rest_none r v))

    top_nothing : (v : ℕ → Fraction) → mixed (length rows) (start rows right costs).lines (start rows right costs).top v ≡ nought
    top_nothing v =
        ap (λ xs. total xs (sums v)) (drop_at (map whole right) (map (λ i. nought) (range_with_len 0 (length costs + 1))) (length rows)
        (length-map right whole ∙ e))
        ∙ total_nothing (map (λ i. nought) (range_with_len 0 (length costs + 1))) (sums v)
        (λ k. ap (λ a. times a (sums v k)) (at_zeros 0 (length costs + 1) k) ∙ zero_times (sums v k))

-- ---- a run

-- the entering column is before the last one
pub entering_before : (last : ℕ) (t : Tableau) (e : ℕ) → entering last t ≡ Some e → e < last
entering_before last t e h = omega (arith, (position-Some is_above (take last t.top) e nought h).0, length-take last t.top)

-- one turn keeps what pivots keep
turned_reached : (m last : ℕ) (begin t : Tableau) → IsReached m last begin t → IsReached m last begin (turned t (next last t))
turned_reached m last begin t h = by_column (entering last t) refl
  where
    by_line : (e : ℕ) → e < last → (o : Option ℕ) → LeavingIs last e t.lines (length t.lines) o → IsReached m last begin (turned t (next_from e o))
    by_line e l None g = h
    by_line e l (Some r) g = pivot_reached m last begin t e r h l g

    by_column : (o : Option ℕ) → entering last t ≡ o → IsReached m last begin (turned t (next_of last t o))
    by_column None q = h
    by_column (Some e) q = by_line e (entering_before last t e q) (leaving last e t.lines (length t.lines))
        (leaving_is last e t.lines (length t.lines))

-- so does a whole run
pub run_reached : (m last : ℕ) (begin : Tableau) (k : ℕ) → IsReached m last begin begin → IsReached m last begin (run last begin k)
run_reached m last begin zero h = h
run_reached m last begin (suc k) h = turned_reached m last begin (run last begin k) (run_reached m last begin k h)
