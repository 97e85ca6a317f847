-- What holds where a run ends.
use Rattle.std.proofs.Common.{◌≡◌, ◌≢◌, ℕ, zero, suc, ◌+◌, ◌<◌, Bool, true, false, ℤ, List, [], ◌∷◌, ◌++◌, Some, None, pos, length, map, take, drop}
use Rattle.std.proofs.Common.{get_or, refl, sym, ap, subst, ◌∙◌, arith, ⊎_elim}
use Rattle.std.specs.Prelude.{◌==◌, if◌then◌else◌}
use Rattle.std.specs.List.{range_with_len}
use Rattle.std.proofs.lemmas.List.{length-map, length-take, get_or-take, get_or_append_left, get_or_past, get_or-map, get_or-drop}
use Rattle.std.proofs.lemmas.List.FromFn.{length-map-range_with_len, get_or-map-range_with_len}
use Rattle.std.proofs.lemmas.List.Quantifiers.{position-Some}
use Rattle.std.proofs.lemmas.Bool.{cases_lt, cases_eq}
use Rattle.std.proofs.lemmas.Bool.Decides.{nat_tests}
use Rattle.np_frac.specs.Fractions.{Fraction, whole, plus, minus, times}
use Rattle.np_frac.specs.Field.{field, frac, int, sum, rest, product, times-one, times_zero, plus_assoc, plus-minus, minus_swapped, minus_zero}
use Rattle.np_frac.specs.Field.{plus-zero, plus_left_zero}
use Rattle.np_simplex.specs.Answers.{AtMost, dot, IsBest, IsRay}
use Rattle.np_simplex.specs.Tableau.{nought, at, is_above, Line, line_at, Tableau, entering, unit, column, line_of, start, basic_amount, best_weights}
use Rattle.np_simplex.specs.Tableau.{best_counts, ray_number, ray_weights}
use Rattle.np_simplex.proofs.Sums.{total, single, total-same, total-single, total_nothing, total_one, total-append, total_swap, zero_times}
use Rattle.np_simplex.proofs.Amounts.{one, most_self, most_same, most_trans, most_minus, most_from_minus, most_rest, not_above}
use Rattle.np_simplex.proofs.Pivots.{Solved, IsReached, single_same, single_other}
use Rattle.np_simplex.proofs.Begin.{start_line, start_past, start_lines, length-column, length-unit, at-unit, past-unit, at_top, at_cost, whole_most}
use Rattle.np_simplex.proofs.Basics.{none_passes, not_basic, basic_most, solution, start_solved, start_top}

-- ---- sums as products item by item

-- equal amounts in the columns that there are
pub total_within : (xs : List Fraction) (v w : ℕ → Fraction) → ((k : ℕ) → k < length xs → v k ≡ w k) → total xs v ≡ total xs w
total_within [] v w h = refl
total_within (x ∷ xs) v w h =
    ap (λ a. plus (times x a) (total xs (λ k. v (suc k)))) (h 0 (omega arith))
    ∙ ap (λ a. plus (times x (w 0)) a) (total_within xs (λ k. v (suc k)) (λ k. w (suc k)) (λ k l. h (suc k) (omega arith)))

-- a sum over another list's numbers
pub total-at : (xs ys : List Fraction) → total xs (at ys) ≡ dot xs ys
total-at [] ys = refl
total-at (x ∷ xs) [] = total_nothing (x ∷ xs) (λ k. nought) (λ k. times_zero (at (x ∷ xs) k))
total-at (x ∷ xs) (y ∷ ys) = ap (λ a. plus (times x y) a) (total-at xs ys)

-- a sum over the values of a function
pub total_made : (xs : List Fraction) (v f : ℕ → Fraction) (n : ℕ) → length xs ≡ n → ((k : ℕ) → k < n → v k ≡ f k)
    → total xs v ≡ dot xs (map f (range_with_len 0 n))
total_made xs v f n e h =
    total_within xs v (at (map f (range_with_len 0 n))) (λ k l. h k (omega arith)
    ∙ sym (get_or-map-range_with_len f 0 n k k nought (omega arith) (omega arith)))
    ∙ total-at xs (map f (range_with_len 0 n))

-- ---- the sums of the start

-- the sum of a step's line
step_sum : (rows : List (List ℤ)) (costs : List ℕ) (j : ℕ) (v : ℕ → Fraction) → j < length costs
    → total (line_of rows costs j).numbers v ≡ plus (total (column rows j) v)
    (plus (v (length rows + j)) (times (whole (pos (get_or costs j 0))) (v (length rows + length costs))))
step_sum rows costs j v l =
    total-append (column rows j) (unit (length costs) j ++ c ∷ []) v w (λ k. ap (λ i. v (i + k)) (length-column rows j))
    ∙ ap (λ a. plus (total (column rows j) v) a)
    (total-append (unit (length costs) j) (c ∷ []) w u (λ k. ap (λ i. w (i + k)) (length-unit (length costs) j))
    ∙ ap (λ a. plus a (total (c ∷ []) u)) (total_one (unit (length costs) j) j w (at-unit (length costs) j j l ∙ single_same j one) none)
    ∙ ap (λ a. plus (w j) a) (plus-zero (times c (u 0)) ∙ ap (λ i. times c (w i)) (let e : length costs + 0 ≡ length costs = omega arith in e)))
  where
    c : Fraction
    c = whole (pos (get_or costs j 0))

    w : ℕ → Fraction
    w k = v (length rows + k)

    u : ℕ → Fraction
    u k = w (length costs + k)

    none : (k : ℕ) → k ≢ j → times (at (unit (length costs) j) k) (w k) ≡ nought
    none k d = ⊎_elim
        (λ b. ap (λ a. times a (w k)) (at-unit (length costs) j k b ∙ single_other j one k (λ q. d (sym q))) ∙ zero_times (w k))
        (λ g. ap (λ a. times a (w k)) (past-unit (length costs) j k g) ∙ zero_times (w k))
        (cases_lt k (length costs))

-- zeros are 0 in each column
at_zeros : (a n k : ℕ) → at (map (λ i. nought) (range_with_len a n)) k ≡ nought
at_zeros a zero k = refl
at_zeros a (suc n) zero = refl
at_zeros a (suc n) (suc k) = at_zeros (a + 1) n k

-- the sum of the top line
top_start : (rows : List (List ℤ)) (right : List ℤ) (costs : List ℕ) (v : ℕ → Fraction)
    → total (start rows right costs).top v ≡ total (map whole right) v
top_start rows right costs v =
    total-append (map whole right) zeros v (λ k. v (length (map whole right) + k)) (λ k. refl)
    ∙ ap (λ a. plus (total (map whole right) v) a)
    (total_nothing zeros (λ k. v (length (map whole right) + k))
    (λ k. ap (λ a. times a (v (length (map whole right) + k))) (at_zeros 0 (length costs + 1) k) ∙ zero_times (v (length (map whole right) + k))))
    ∙ plus-zero (total (map whole right) v)
  where
    zeros : List Fraction
    zeros = map (λ i. nought) (range_with_len 0 (length costs + 1))

-- ---- shared by both ends

-- minus 1
minus_one : Fraction
minus_one = minus nought one

-- no column before the last one is above 0 where none enters
top_below : (last : ℕ) (t : Tableau) → entering last t ≡ None → (k : ℕ) → k < last → is_above (at t.top k) ≡ false
top_below last t e k l = ⊎_elim
    (λ b. sym (ap is_above (get_or-take last t.top k nought l)) ∙ none_passes is_above (take last t.top) k nought e b)
    (λ g. ap is_above (get_or_past t.top k nought (omega (arith, length-take last t.top))) ∙ (most_self nought).is)
    (cases_lt k (length (take last t.top)))

-- the last column is basic in no line
last_free : (m last : ℕ) (begin t : Tableau) (amount : Line → Fraction) → IsReached m last begin t → basic_amount amount t.lines last ≡ nought
last_free m last begin t amount h = not_basic amount t.lines last (λ s l e. omega (arith, h.below s l))

-- where the step of a column is solved
step_solved : (rows : List (List ℤ)) (right : List ℤ) (costs : List ℕ) (v : ℕ → Fraction) → Solved (start rows right costs).lines v → (j : ℕ)
    → j < length costs → plus (total (column rows j) v)
    (plus (v (length rows + j)) (times (whole (pos (get_or costs j 0))) (v (length rows + length costs)))) ≡ nought
step_solved rows right costs v h j l =
    sym (step_sum rows costs j v l) ∙ ap (λ line. total line.numbers v) (sym (start_line rows right costs j l))
    ∙ h j (omega (arith, start_lines rows right costs))

-- ---- the best end

-- a number and its negation
cancelled : (x : Fraction) → plus (times x minus_one) x ≡ nought
unfolding minus_one
cancelled x = field (sum (product (frac x) (rest (int (pos 0)) (int (pos 1)))) (frac x)) (int (pos 0)) (omega arith)

-- times minus 1
times_minus_one : (c : Fraction) → times c minus_one ≡ minus nought c
unfolding minus_one
times_minus_one c = field (product (frac c) (rest (int (pos 0)) (int (pos 1)))) (rest (int (pos 0)) (frac c)) (omega arith)

-- a sum with a negated number is a difference
less_is : (x d : Fraction) → plus x (minus nought d) ≡ minus x d
less_is x d = field (sum (frac x) (rest (int (pos 0)) (frac d))) (rest (frac x) (frac d)) (omega arith)

-- a cost is what the column's sum leaves
regained : (t w c : Fraction) → plus t (plus w (times c minus_one)) ≡ nought → plus t w ≡ c
regained t w c e =
    sym (plus_assoc t (minus w c) c ∙ ap (λ a. plus t a) (plus-minus w c))
    ∙ ap (λ a. plus a c) (sym (ap (λ a. plus t (plus w a)) (times_minus_one c) ∙ ap (λ a. plus t a) (less_is w c)) ∙ e)
    ∙ plus_left_zero c

-- negated amounts
total_negated : (xs : List Fraction) (v : ℕ → Fraction) → total xs v ≡ minus nought (total xs (λ k. minus nought (v k)))
total_negated [] v = field (int (pos 0)) (rest (int (pos 0)) (int (pos 0))) (omega arith)
total_negated (x ∷ xs) v =
    ap (λ a. plus (times x (v 0)) a) (total_negated xs (λ k. v (suc k)))
    ∙ moved x (v 0) (total xs (λ k. minus nought (v (suc k))))
  where
    moved : (x v t : Fraction) → plus (times x v) (minus nought t) ≡ minus nought (plus (times x (minus nought v)) t)
    moved x v t = field (sum (product (frac x) (frac v)) (rest (int (pos 0)) (frac t)))
        (rest (int (pos 0)) (sum (product (frac x) (rest (int (pos 0)) (frac v))) (frac t))) (omega arith)

-- a column's number in the top line: what it was, less the steps' numbers there, each times the step's count
top_column : (rows : List (List ℤ)) (right : List ℤ) (costs : List ℕ) (last : ℕ) (t : Tableau)
    → IsReached (length rows) last (start rows right costs) t → (c : ℕ) (numbers : List Fraction) → length numbers ≡ length costs
    → ((j : ℕ) → j < length costs → at (line_of rows costs j).numbers c ≡ at numbers j)
    → at t.top c ≡ plus (at (start rows right costs).top c) (minus nought (dot numbers (best_counts (length rows) (length costs) t)))
top_column rows right costs last t h c numbers e each =
    sym (total-single t.top c one ∙ times-one (at t.top c)) ∙ h.top_kept.is (single c one)
    ∙ ap (λ a. plus a (total (drop (length rows) t.top) (λ j. total (line_at begin j).numbers (single c one))))
    (total-single (start rows right costs).top c one ∙ times-one (at (start rows right costs).top c))
    ∙ ap (λ a. plus (at (start rows right costs).top c) a)
    (total-same (drop (length rows) t.top) (λ j. total (line_at begin j).numbers (single c one)) (at numbers) numbers_at
    ∙ total_swap (drop (length rows) t.top) numbers
    ∙ total-same numbers (at (drop (length rows) t.top)) (λ j. at t.top (length rows + j)) (λ j. get_or-drop (length rows) t.top j nought)
    ∙ total_negated numbers (λ j. at t.top (length rows + j))
    ∙ ap (λ a. minus nought a) (total_made numbers (λ j. minus nought (at t.top (length rows + j))) (λ j. minus nought (at t.top (length rows + j)))
    (length costs) e (λ k l. refl)))
  where
    begin : List Line
    begin = (start rows right costs).lines

    numbers_at : (j : ℕ) → total (line_at begin j).numbers (single c one) ≡ at numbers j
    numbers_at j = ⊎_elim
        (λ l. total-single (line_at begin j).numbers c one ∙ times-one (at (line_at begin j).numbers c)
        ∙ ap (λ line. at line.numbers c) (start_line rows right costs j l) ∙ each j l)
        (λ g. ap (λ line. total line.numbers (single c one)) (start_past rows right costs j g) ∙ sym (get_or_past numbers j nought (omega arith)))
        (cases_lt j (length costs))

-- a row's coefficient in a step's line
at_row : (rows : List (List ℤ)) (costs : List ℕ) (i j : ℕ) → i < length rows → length (get_or rows i []) ≡ length costs → j < length costs
    → at (line_of rows costs j).numbers i ≡ at (map whole (get_or rows i [])) j
at_row rows costs i j l e k =
    get_or_append_left (column rows j) (unit (length costs) j ++ whole (pos (get_or costs j 0)) ∷ []) nought i (omega (arith, length-column rows j))
    ∙ get_or-map (λ row. whole (get_or row j (pos 0))) rows i [] nought l
    ∙ sym (get_or-map whole (get_or rows i []) j (pos 0) nought (omega arith))

-- a right side in the first top line
pub at_right : (rows : List (List ℤ)) (right : List ℤ) (costs : List ℕ) (i : ℕ) → length right ≡ length rows → i < length rows
    → at (start rows right costs).top i ≡ whole (get_or right i (pos 0))
at_right rows right costs i e l =
    get_or_append_left (map whole right) (map (λ k. nought) (range_with_len 0 (length costs + 1))) nought i (omega (arith, length-map right whole))
    ∙ get_or-map whole right i (pos 0) nought (omega arith)

-- the answer at a best end
pub best_end : (rows : List (List ℤ)) (right : List ℤ) (costs : List ℕ) (t : Tableau) → length right ≡ length rows
    → ((i : ℕ) → i < length rows → length (get_or rows i []) ≡ length costs)
    → IsReached (length rows) (length rows + length costs) (start rows right costs) t → entering (length rows + length costs) t ≡ None
    → IsBest rows right costs (best_weights (length rows) (length rows + length costs) t) (best_counts (length rows) (length costs) t)
unfolding minus_one
best_end rows right costs t e wide h q = record {
  weight_per_row = length-map-range_with_len b 0 m;
  weighed = λ k l. subst (λ x. AtMost nought x)
      (sym (get_or-map-range_with_len b 0 m k k nought (omega (arith, length-map-range_with_len b 0 m)) (omega arith))) (b_most k);
  priced = λ j l. most_trans (most_same _ _ (sym (weighted (column rows j) (length-column rows j))))
      (most_rest (total (column rows j) z) (b (m + j)) (whole (pos (get_or costs j 0))) (step j l) (b_most (m + j)));
  count_per_column = length-map-range_with_len y 0 n;
  counted = λ k l. subst (λ x. AtMost nought x) (sym (get_or-map-range_with_len y 0 n k k nought (few k l) (omega arith)))
      (most_minus nought (at t.top (m + k)) (not_above (at t.top (m + k)) (top_below last t q (m + k) (omega (arith, few k l)))));
  met = λ i l. most_from_minus (whole (get_or right i (pos 0))) (dot (map whole (get_or rows i [])) (best_counts m n t))
      (most_trans (most_same _ (at t.top i) (sym
      (top_column rows right costs last t h i (map whole (get_or rows i [])) (length-map (get_or rows i []) whole
      ∙ wide i l) (λ j k. at_row rows costs i j l (wide i l) k)
      ∙ ap (λ a. plus a (minus nought (dot (map whole (get_or rows i [])) (best_counts m n t)))) (at_right rows right costs i e l)
      ∙ less_is (whole (get_or right i (pos 0))) (dot (map whole (get_or rows i [])) (best_counts m n t)))))
      (not_above (at t.top i) (top_below last t q i (omega arith))));
  equal = sym (weighted (map whole right) (length-map right whole ∙ e)) ∙ sym (top_start rows right costs z)
      ∙ start_top m last begin t last minus_one amount h solved
      ∙ ap (λ a. times a minus_one) (top_column rows right costs last t h last (map (λ c. whole (pos c)) costs)
      (length-map costs (λ c. whole (pos c))) cost_at
      ∙ ap (λ a. plus a (minus nought (dot (map (λ c. whole (pos c)) costs) (best_counts m n t)))) (at_top rows right costs n e))
      ∙ negated_twice (dot (map (λ c. whole (pos c)) costs) (best_counts m n t));
}
  where
    m : ℕ
    m = length rows

    n : ℕ
    n = length costs

    last : ℕ
    last = length rows + length costs

    begin : Tableau
    begin = start rows right costs

    amount : Line → Fraction
    amount line = at line.numbers (length rows + length costs)

    b : ℕ → Fraction
    b = basic_amount amount t.lines

    y : ℕ → Fraction
    y j = minus nought (at t.top (length rows + j))

    few : (k : ℕ) → k < length (best_counts (length rows) (length costs) t) → k < length costs
    few k l = omega (arith, length-map-range_with_len y 0 n)

    z : ℕ → Fraction
    z = solution last minus_one amount t

    solved : Solved begin.lines z
    solved = start_solved m last begin t last minus_one amount h (λ r l. cancelled (at (line_at t.lines r).numbers last))

    z_last : z last ≡ minus_one
    z_last = ap (λ a. plus (single last minus_one last) a) (last_free m last begin t amount h) ∙ plus-zero (single last minus_one last)
        ∙ single_same last minus_one

    z_other : (k : ℕ) → k < last → z k ≡ b k
    z_other k l = ap (λ a. plus a (b k)) (single_other last minus_one k (λ d. omega arith)) ∙ plus_left_zero (b k)

    b_most : (k : ℕ) → AtMost nought (b k)
    b_most k = basic_most amount t.lines k h.not_negative

    weighted : (xs : List Fraction) → length xs ≡ m → total xs z ≡ dot xs (best_weights m last t)
    weighted xs f = total_made xs z b m f (λ k l. z_other k (omega arith))

    step : (j : ℕ) → j < n → plus (total (column rows j) z) (b (m + j)) ≡ whole (pos (get_or costs j 0))
    step j l = regained (total (column rows j) z) (b (m + j)) (whole (pos (get_or costs j 0)))
        (sym (ap (λ a. plus (total (column rows j) z) (plus a (times (whole (pos (get_or costs j 0))) (z last)))) (z_other (m + j) (omega arith))
        ∙ ap (λ a. plus (total (column rows j) z) (plus (b (m + j)) (times (whole (pos (get_or costs j 0))) a))) z_last)
        ∙ step_solved rows right costs z solved j l)

    cost_at : (j : ℕ) → j < n → at (line_of rows costs j).numbers last ≡ at (map (λ c. whole (pos c)) costs) j
    cost_at j l = at_cost rows costs j ∙ sym (get_or-map (λ c. whole (pos c)) costs j 0 nought l)

    negated_twice : (d : Fraction) → times (plus nought (minus nought d)) minus_one ≡ d
    negated_twice d =
        ap (λ a. times a minus_one) (plus_left_zero (minus nought d)) ∙ times_minus_one (minus nought d)
        ∙ minus_swapped nought d ∙ minus_zero d

-- ---- the end at a ray

-- the answer at a ray
pub ray_end : (rows : List (List ℤ)) (right : List ℤ) (costs : List ℕ) (t : Tableau) (e : ℕ) → length right ≡ length rows
    → IsReached (length rows) (length rows + length costs) (start rows right costs) t → entering (length rows + length costs) t ≡ Some e
    → e < length rows + length costs → ((i : ℕ) → i < length t.lines → is_above (at (line_at t.lines i).numbers e) ≡ false)
    → IsRay rows right costs (ray_weights (length rows) e t)
ray_end rows right costs t e f h q before none = record {
  weight_per_row = length-map-range_with_len (ray_number e t.lines) 0 m;
  weighed = λ k l. subst (λ x. AtMost nought x)
      (sym (get_or-map-range_with_len (ray_number e t.lines) 0 m k k nought (omega (arith, length-map-range_with_len (ray_number e t.lines) 0 m))
      (omega arith))) (w_most k);
  priced = λ j l. most_trans (most_same _ _ (sym (weighted (column rows j) (length-column rows j))))
      (most_rest (total (column rows j) z) (z (m + j)) nought (step j l) (subst (λ x. AtMost nought x) (sym (z_is (m + j))) (w_most (m + j))));
  above = ap is_above (sym (weighted (map whole right) (length-map right whole ∙ f)) ∙ sym (top_start rows right costs z)
      ∙ start_top m last begin t e one amount h solved ∙ times-one (at t.top e)) ∙ top_above;
}
  where
    m : ℕ
    m = length rows

    last : ℕ
    last = length rows + length costs

    begin : Tableau
    begin = start rows right costs

    amount : Line → Fraction
    amount line = minus nought (at line.numbers e)

    z : ℕ → Fraction
    z = solution e one amount t

    gone : (x : Fraction) → plus (times x one) (minus nought x) ≡ nought
    gone x = field (sum (product (frac x) (int (pos 1))) (rest (int (pos 0)) (frac x))) (int (pos 0)) (omega arith)

    solved : Solved begin.lines z
    solved = start_solved m last begin t e one amount h (λ r l. gone (at (line_at t.lines r).numbers e))

    top_above : is_above (at t.top e) ≡ true
    top_above = sym (ap is_above (get_or-take last t.top e nought before)) ∙ (position-Some is_above (take last t.top) e nought q).1

    e_free : basic_amount amount t.lines e ≡ nought
    e_free = not_basic amount t.lines e (λ s l d. absurd (let a : is_above nought ≡ true = ap is_above (sym (h.top_units s l)
        ∙ ap (λ i. at t.top i) d) ∙ top_above in let b : is_above nought ≡ false = (most_self nought).is in cc))

    z_is : (k : ℕ) → z k ≡ ray_number e t.lines k
    z_is k = ⊎_elim
        (λ d. ap (λ i. z i) d ∙ ap (λ a. plus (single e one e) a) e_free ∙ plus-zero (single e one e) ∙ single_same e one
        ∙ sym (same (k == e) (grind (arith, nat_tests))))
        (λ d. ap (λ a. plus a (basic_amount amount t.lines k)) (single_other e one k (λ s. d (sym s)))
        ∙ plus_left_zero (basic_amount amount t.lines k) ∙ sym (other (k == e) (grind (arith, nat_tests))))
        (cases_eq k e)
      where
        same : (c : Bool) → c ≡ true → (if c then whole (pos 1) else basic_amount amount t.lines k) ≡ one
        same true s = refl
        same false s = cc

        other : (c : Bool) → c ≡ false → (if c then whole (pos 1) else basic_amount amount t.lines k) ≡ basic_amount amount t.lines k
        other true s = cc
        other false s = refl

    z_last : z last ≡ nought
    z_last = ap (λ a. plus (single e one last) a) (last_free m last begin t amount h) ∙ plus-zero (single e one last)
        ∙ single_other e one last (λ d. omega arith)

    w_most : (k : ℕ) → AtMost nought (ray_number e t.lines k)
    w_most k = split (k == e)
      where
        split : (c : Bool) → AtMost nought (if c then whole (pos 1) else basic_amount amount t.lines k)
        split true = whole_most 1
        split false = basic_most amount t.lines k
            (λ s l. most_minus nought (at (line_at t.lines s).numbers e) (not_above (at (line_at t.lines s).numbers e) (none s l)))

    weighted : (xs : List Fraction) → length xs ≡ m → total xs z ≡ dot xs (ray_weights m e t)
    weighted xs g = total_made xs z (ray_number e t.lines) m g (λ k l. z_is k)

    step : (j : ℕ) → j < length costs → plus (total (column rows j) z) (z (m + j)) ≡ nought
    step j l =
        sym (ap (λ a. plus (total (column rows j) z) (plus (z (m + j)) (times (whole (pos (get_or costs j 0))) a))) z_last
        ∙ ap (λ a. plus (total (column rows j) z) (plus (z (m + j)) a)) (times_zero (whole (pos (get_or costs j 0))))
        ∙ ap (λ a. plus (total (column rows j) z) a) (plus-zero (z (m + j))))
        ∙ step_solved rows right costs z solved j l
