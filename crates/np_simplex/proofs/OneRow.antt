-- With one row and small numbers no turn is wide, and one pivot is enough.
use Rattle.std.proofs.Common.{◌≡◌, ℕ, zero, suc, ◌+◌, ◌*◌, ◌^◌, ◌<◌, ◌≤◌, Bool, true, false, ℤ, pos, negsuc, ◌<ℤ◌, ◌*ℤ◌, ◌+ℤ◌, neg_ℤ, List, [], ◌∷◌}
use Rattle.std.proofs.Common.{◌++◌, None, length, map, take, get_or, refl, sym, ap, subst, ◌∙◌, arith, ⊎_elim, ◌⊎◌, inl, inr}
use Rattle.std.specs.Prelude.{◌||◌, ◌==◌, if◌then◌else◌, unsigned_abs}
use Rattle.std.specs.List.{range_with_len}
use Rattle.std.proofs.lemmas.Bool.{cases_lt}
use Rattle.std.proofs.lemmas.Int.{ints, unsigned_abs-mul}
use Rattle.std.proofs.lemmas.List.{get_or-take, length-take}
use Rattle.std.proofs.lemmas.List.Quantifiers.{position-Some}
use Rattle.std.proofs.Math.Nat.{mul-le-mul}
use native.Mathlib.Nat.{mul-pos}
use Rattle.np_frac.specs.Fractions.{Fraction, whole, over, minus, times}
use Rattle.np_frac.specs.Checked.{reciprocal, ratio}
use Rattle.np_frac.specs.Laws.{den_of, times-over, over_whole}
use Rattle.np_frac.specs.Field.{whole_num, whole_den}
use Rattle.np_frac.specs.Sizes.{size, are_wide}
use Rattle.np_simplex.specs.Tableau.{nought, at, is_above, line_at, Tableau, less, cleared, leaver, pivot, entering, next, next_of, turned, run, unit}
use Rattle.np_simplex.specs.Tableau.{column, start, GoesOn}
use Rattle.np_simplex.specs.Widths.{AreSmall, is_wide_multiple, IsWideTurn, in_quotient, in_pivot, IsWidePivot, in_leaver, in_top, in_line, HasPast}
use Rattle.np_simplex.specs.Widths.{in_top_line, in_a_line, IsWideRun, at_turn, at_number}
use Rattle.np_simplex.specs.Promises.{most_pivots}
use Rattle.np_simplex.specs.declared.choice.Course.TheVariants.{Best, Ray, Turn}
use Rattle.np_simplex.specs.declared.choice.Course.{Course}
use Rattle.std.specs.Ordering.{is_gt}
use Rattle.np_frac.specs.Field.{times-one, minus_self}
use Rattle.np_frac.specs.Order.{cmp_minus}
use Rattle.np_simplex.specs.Answers.{AtMost}
use Rattle.np_simplex.proofs.Sums.{at-divided, at-less, single}
use Rattle.np_simplex.proofs.Amounts.{above_num, one, most_self, most_product, above_most, reciprocal_above, times_reciprocal}
use Rattle.np_simplex.proofs.Begin.{start_line, start_past, start_lines, at-step, at_top, entering_before, whole_most}
use Rattle.np_simplex.proofs.Turns.{IsTurn, turn_parts, best_parts}
use Rattle.np_simplex.proofs.Shapes.{found_none}
use Rattle.np_simplex.proofs.Wide.{num_within, den_within, size_from, over_within, over_parts, size-times, wide_sizes, wide_quotient, past_lower}
use Rattle.np_simplex.proofs.Pivots.{after_pivot, lines_after}

-- a whole number below 2 ^ 40 in size
pub record IsSmall (x : Fraction) : Type 0 where
  pub number : ℤ
  pub is : x ≡ whole number
  pub small : unsigned_abs number < 2 ^ 40

-- each number of a line is one
abbrev pub AllSmall : List Fraction → Type 0
AllSmall xs = (c : ℕ) → IsSmall (at xs c)

small_zero : IsSmall nought
small_zero = record { number = pos 0; is = refl; small = omega (arith, ints) }

small_one : IsSmall one
small_one = record { number = pos 1; is = refl; small = omega (arith, ints) }

-- lists of small numbers
small_append : (xs ys : List Fraction) → AllSmall xs → AllSmall ys → AllSmall (xs ++ ys)
small_append [] ys h k c = k c
small_append (x ∷ xs) ys h k zero = h 0
small_append (x ∷ xs) ys h k (suc c) = small_append xs ys (λ d. h (suc d)) k c

small_single : (x : Fraction) → IsSmall x → AllSmall (x ∷ [])
small_single x h zero = h
small_single x h (suc c) = small_zero

small_map : (f : ℕ → Fraction) → ((k : ℕ) → IsSmall (f k)) → (a n : ℕ) → AllSmall (map f (range_with_len a n))
small_map f h a zero c = small_zero
small_map f h a (suc n) zero = h a
small_map f h a (suc n) (suc c) = small_map f h (a + 1) n c

-- a unit line
small_unit : (n j : ℕ) → AllSmall (unit n j)
small_unit n j = small_map (λ k. if k == j then whole (pos 1) else nought) (λ k. split (k == j)) 0 n
  where
    split : (b : Bool) → IsSmall (if b then whole (pos 1) else nought)
    split true = small_one
    split false = small_zero

-- sizes
small_size : (x : Fraction) → IsSmall x → size x ≤ 2 ^ 40
small_size x h = subst (λ y. size y ≤ 2 ^ 40) (sym h.is)
    (size_from (whole h.number) (2 ^ 40) (omega (arith, ap unsigned_abs (whole_num h.number), h.small)) (omega (arith, whole_den h.number)))

small_num : (x : Fraction) → IsSmall x → unsigned_abs x.num ≤ 2 ^ 40
small_num x h = omega (arith, num_within x, small_size x h)

small_den : (x : Fraction) → IsSmall x → x.den ≡ 1
small_den x h = ap (λ y. y.den) h.is ∙ whole_den h.number

-- the size of a sum
sum_within : (x y : ℤ) → unsigned_abs x ≤ 2 ^ 40 * 2 ^ 40 → unsigned_abs y ≤ 2 ^ 40 * 2 ^ 40 → unsigned_abs (x +ℤ y) ≤ 2 ^ 81
sum_within x y h k = omega (arith, ints)

-- the quotient of small numbers is no larger
small_quotient : (x a : Fraction) → IsSmall x → IsSmall a → is_above a ≡ true → size (times x (reciprocal a)) ≤ 2 ^ 40
unfolding reciprocal
small_quotient x a h k l = subst (λ y. size (times y (ratio (pos a.den) a.num)) ≤ 2 ^ 40) (sym h.is) (by_number a.num a.den (ap (λ y. y.num) k.is
    ∙ whole_num k.number) (ap (λ y. y.den) k.is ∙ whole_den k.number) (above_num a l))
  where
    by_number : (n : ℤ) (d : ℕ) → n ≡ k.number → d ≡ 1 → pos 0 <ℤ n → size (times (whole h.number) (ratio (pos d) n)) ≤ 2 ^ 40
    by_number (pos zero) d e f p = absurd (omega (arith, ints))
    by_number (negsuc n) d e f p = absurd (omega (arith, ints))
    by_number (pos (suc n)) d e f p = subst (λ y. size (times y (over (pos d) (suc n))) ≤ 2 ^ 40) (over_whole h.number)
        (subst (λ y. size y ≤ 2 ^ 40) (sym (times-over h.number 1 (pos d) (suc n) (omega arith) (omega arith)))
        (subst (λ i. size (over (h.number *ℤ pos i) (1 * suc n)) ≤ 2 ^ 40) (sym f)
        (over_within (h.number *ℤ pos 1) (1 * suc n) (2 ^ 40) (omega arith) (omega (arith, ints, h.small))
        (omega (arith, ints, k.small, ap unsigned_abs e)))))

-- no product of small numbers is wide
narrow : (s t : ℕ) → s ≤ 2 ^ 40 → t ≤ 2 ^ 40 → 2 ^ 125 < s * t → ⊥
narrow s t h k l = let m : s * t ≤ 2 ^ 40 * 2 ^ 40 = mul-le-mul h k in absurd (omega arith)

-- nor is a difference from a multiple
narrow_multiple : (x k y : Fraction) → size x ≤ 2 ^ 40 → size k ≤ 2 ^ 40 → size y ≤ 2 ^ 40 → is_wide_multiple x k y ≡ true → ⊥
unfolding is_wide_multiple
narrow_multiple x k y hx hk hy e = split (are_wide k y) (are_wide x (times k y)) refl refl e
  where
    split : (p q : Bool) → are_wide k y ≡ p → are_wide x (times k y) ≡ q → (p || q) ≡ true → ⊥
    split true q f g s = narrow (size k) (size y) hk hy (wide_sizes k y f)
    split false true f g s =
        let m : size k * size y ≤ 2 ^ 40 * 2 ^ 40 = mul-le-mul hk hy in
        let u : size (times k y) ≤ 2 ^ 40 * 2 ^ 40 = omega (arith, size-times k y) in
        let v : size x * size (times k y) ≤ 2 ^ 40 * (2 ^ 40 * 2 ^ 40) = mul-le-mul hx u in
        absurd (omega (arith, wide_sizes x (times k y) g))
    split false false f g s = cc

-- the leaving line divided is no larger
leaver_small : (t : Tableau) (e r : ℕ) → ((i : ℕ) → AllSmall (line_at t.lines i).numbers) → is_above (at (line_at t.lines r).numbers e) ≡ true
    → (c : ℕ) → size (at (leaver t e r) c) ≤ 2 ^ 40
leaver_small t e r hl above c = let old : List Fraction = (line_at t.lines r).numbers in
    subst (λ y. size y ≤ 2 ^ 40) (sym (at-divided old (at old e) c)) (small_quotient (at old c) (at old e) (hl r c) (hl r e) above)

-- a tableau of small numbers has no wide pivot
pub small_pivot : (t : Tableau) (e r : ℕ) → AllSmall t.top → ((i : ℕ) → AllSmall (line_at t.lines i).numbers)
    → is_above (at (line_at t.lines r).numbers e) ≡ true → IsWidePivot t e r → ⊥
small_pivot t e r ht hl above w = by_case w
  where
    old : List Fraction
    old = (line_at t.lines r).numbers

    divided_small : (c : ℕ) → size (at (leaver t e r) c) ≤ 2 ^ 40
    divided_small = leaver_small t e r hl above

    by_case : IsWidePivot t e r → ⊥
    by_case (in_leaver d) = narrow (size (at old d.column)) (size (at old e)) (small_size _ (hl r d.column)) (small_size _ (hl r e))
        (wide_quotient _ _ d.wide above)
    by_case (in_top d) = narrow_multiple (at t.top d.column) (at t.top e) (at (leaver t e r) d.column) (small_size _ (ht d.column))
        (small_size _ (ht e)) (divided_small d.column) d.wide
    by_case (in_line d) = narrow_multiple (at (line_at t.lines d.place).numbers d.wide.column) (at (line_at t.lines d.place).numbers e)
        (at (leaver t e r) d.wide.column) (small_size _ (hl d.place d.wide.column)) (small_size _ (hl d.place e))
        (divided_small d.wide.column) d.wide.wide

-- ---- sizes after a pivot

-- a product of a whole number below 2 ^ 40 and a number of size at most 2 ^ 40
multiple_parts : (k y : Fraction) → k.den ≡ 1 → unsigned_abs k.num ≤ 2 ^ 40 → size y ≤ 2 ^ 40
    → (unsigned_abs (times k y).num ≤ 2 ^ 40 * 2 ^ 40) × ((times k y).den ≤ 2 ^ 40)
unfolding times
multiple_parts k y d n h = over_parts (k.num *ℤ y.num) (k.den * y.den) (2 ^ 40 * 2 ^ 40) (2 ^ 40) (mul-pos (den_of k) (den_of y)) top bottom
  where
    within : unsigned_abs y.num ≤ 2 ^ 40
    within = omega (arith, num_within y, h)

    top : unsigned_abs (k.num *ℤ y.num) ≤ 2 ^ 40 * 2 ^ 40
    top = let m : unsigned_abs k.num * unsigned_abs y.num ≤ 2 ^ 40 * 2 ^ 40 = mul-le-mul n within in omega (arith, unsigned_abs-mul k.num y.num)

    bottom : k.den * y.den ≤ 2 ^ 40
    bottom = subst (λ q. q * y.den ≤ 2 ^ 40) (sym d) (omega (arith, den_within y, h))

-- what is left of a whole number below 2 ^ 40 by it
rest_within : (x z : Fraction) → x.den ≡ 1 → unsigned_abs x.num ≤ 2 ^ 40 → unsigned_abs z.num ≤ 2 ^ 40 * 2 ^ 40 → z.den ≤ 2 ^ 40
    → size (minus x z) ≤ 2 ^ 81
unfolding minus
rest_within x z d n h k = over_within ((x.num *ℤ pos z.den) +ℤ (neg_ℤ z.num *ℤ pos x.den)) (x.den * z.den) (2 ^ 81)
    (mul-pos (den_of x) (den_of z)) top bottom
  where
    left : unsigned_abs (x.num *ℤ pos z.den) ≤ 2 ^ 40 * 2 ^ 40
    left = let m : unsigned_abs x.num * z.den ≤ 2 ^ 40 * 2 ^ 40 = mul-le-mul n k in omega (arith, unsigned_abs-mul x.num (pos z.den))

    right : unsigned_abs (neg_ℤ z.num *ℤ pos x.den) ≤ 2 ^ 40 * 2 ^ 40
    right = subst (λ q. unsigned_abs (neg_ℤ z.num *ℤ pos q) ≤ 2 ^ 40 * 2 ^ 40) (sym d) (omega (arith, ints, h))

    top : unsigned_abs ((x.num *ℤ pos z.den) +ℤ (neg_ℤ z.num *ℤ pos x.den)) ≤ 2 ^ 81
    top = sum_within (x.num *ℤ pos z.den) (neg_ℤ z.num *ℤ pos x.den) left right

    bottom : x.den * z.den ≤ 2 ^ 81
    bottom = subst (λ q. q * z.den ≤ 2 ^ 81) (sym d) (omega (arith, k))

-- a small number less a multiple of a quotient of small ones
turned_size : (x k y : Fraction) → IsSmall x → IsSmall k → size y ≤ 2 ^ 40 → size (minus x (times k y)) ≤ 2 ^ 81
turned_size x k y hx hk h = let m : (unsigned_abs (times k y).num ≤ 2 ^ 40 * 2 ^ 40) × ((times k y).den ≤ 2 ^ 40) = multiple_parts k y
    (small_den k hk) (small_num k hk) h in
    rest_within x (times k y) (small_den x hx) (small_num x hx) (m.0) (m.1)

-- after a pivot of small numbers none is past 2 ^ 81
pub small_turned : (t : Tableau) (e r : ℕ) → AllSmall t.top → ((i : ℕ) → AllSmall (line_at t.lines i).numbers) → r < length t.lines
    → is_above (at (line_at t.lines r).numbers e) ≡ true → HasPast (2 ^ 81) (pivot t e r) → ⊥
small_turned t e r ht hl within above h = by_case h
  where
    p : List Fraction
    p = leaver t e r

    less_within : (xs : List Fraction) → AllSmall xs → (c : ℕ) → size (at (less xs (at xs e) p) c) ≤ 2 ^ 81
    less_within xs g c = subst (λ y. size y ≤ 2 ^ 81) (sym (at-less xs (at xs e) p c))
        (turned_size (at xs c) (at xs e) (at p c) (g c) (g e) (leaver_small t e r hl above c))

    line_within : (i : ℕ) → i < length t.lines → (c : ℕ) → size (at (line_at (pivot t e r).lines i).numbers c) ≤ 2 ^ 81
    line_within = after_pivot (λ i line. (c : ℕ)
        → size (at line.numbers c) ≤ 2 ^ 81) t.lines (cleared e p) r (record { basic = e; numbers = p }) within
        (λ c. omega (arith, leaver_small t e r hl above c)) (λ i l d c. less_within (line_at t.lines i).numbers (hl i) c)

    by_case : HasPast (2 ^ 81) (pivot t e r) → ⊥
    by_case (in_top_line c l) = absurd (omega (arith, less_within t.top ht c))
    by_case (in_a_line i c w l) = absurd (omega
        (arith, line_within i (omega (arith, lines_after t.lines (cleared e p) r (record { basic = e; numbers = p }))) c))

-- ---- the start

small_wholes : (zs : List ℤ) → ((c : ℕ) → unsigned_abs (get_or zs c (pos 0)) < 2 ^ 40) → AllSmall (map whole zs)
small_wholes [] h c = small_zero
small_wholes (z ∷ zs) h zero = record { number = z; is = refl; small = h 0 }
small_wholes (z ∷ zs) h (suc c) = small_wholes zs (λ k. h (suc k)) c

small_column : (rows : List (List ℤ)) (j : ℕ) → ((i : ℕ) → unsigned_abs (get_or (get_or rows i []) j (pos 0)) < 2 ^ 40) → AllSmall (column rows j)
small_column [] j h c = small_zero
small_column (row ∷ rows) j h zero = record { number = get_or row j (pos 0); is = refl; small = h 0 }
small_column (row ∷ rows) j h (suc c) = small_column rows j (λ k. h (suc k)) c

pub start_small_top : (rows : List (List ℤ)) (right : List ℤ) (costs : List ℕ) → AreSmall rows right costs → AllSmall (start rows right costs).top
start_small_top rows right costs h = small_append (map whole right) (map (λ k. nought) (range_with_len 0 (length costs + 1)))
    (small_wholes right h.sides) (small_map (λ k. nought) (λ k. small_zero) 0 (length costs + 1))

pub start_small_line : (rows : List (List ℤ)) (right : List ℤ) (costs : List ℕ) → AreSmall rows right costs → (i : ℕ)
    → AllSmall (line_at (start rows right costs).lines i).numbers
start_small_line rows right costs h i = ⊎_elim
    (λ l. subst (λ x. AllSmall x.numbers) (sym (start_line rows right costs i l))
    (small_append (column rows i) (unit (length costs) i ++ whole (pos (get_or costs i 0)) ∷ []) (small_column rows i (λ k. h.coefficients k i))
    (small_append (unit (length costs) i) (whole (pos (get_or costs i 0)) ∷ []) (small_unit (length costs) i)
    (small_single (whole (pos (get_or costs i 0)))
    (record { number = pos (get_or costs i 0); is = refl; small = omega (arith, ints, h.prices i) })))))
    (λ g. subst (λ x. AllSmall x.numbers) (sym (start_past rows right costs i g)) (λ c. small_zero))
    (cases_lt i (length costs))

-- the first turn isn't wide
pub first_turn : (rows : List (List ℤ)) (right : List ℤ) (costs : List ℕ) (last : ℕ) → AreSmall rows right costs
    → IsWideTurn last (start rows right costs) → ⊥
first_turn rows right costs last h (in_quotient e q w) = narrow _ _ (small_size _ (start_small_line rows right costs h w.place last))
    (small_size _ (start_small_line rows right costs h w.place e)) (wide_quotient _ _ w.wide w.above)
first_turn rows right costs last h (in_pivot e r n w) = small_pivot (start rows right costs) e r (start_small_top rows right costs h)
    (start_small_line rows right costs h) (turn_parts last (start rows right costs) e r n).leaves.above w

-- 1 in its own column isn't negative
single_most : (r j : ℕ) → AtMost nought (single r one j)
single_most zero zero = whole_most 1
single_most zero (suc j) = most_self nought
single_most (suc r) zero = most_self nought
single_most (suc r) (suc j) = single_most r j

-- ---- one row

-- after one pivot from a start with one row no column enters
pub one_pivot : (row : List ℤ) (b : ℤ) (costs : List ℕ) (e r : ℕ) → next (1 + length costs) (start (row ∷ []) (b ∷ []) costs) ≡ Turn e r
    → next (1 + length costs) (pivot (start (row ∷ []) (b ∷ []) costs) e r) ≡ Best
one_pivot row b costs e r n = ap (λ o. next_of last (pivot t e r) o) (sym (found_none is_above (take last (pivot t e r).top) nought none))
  where
    last : ℕ
    last = 1 + length costs

    t : Tableau
    t = start (row ∷ []) (b ∷ []) costs

    turn : IsTurn last e r t
    turn = turn_parts last t e r n

    p : List Fraction
    p = leaver t e r

    old : List Fraction
    old = (line_at t.lines r).numbers

    in_costs : r < length costs
    in_costs = omega (arith, turn.leaves.within, start_lines (row ∷ []) (b ∷ []) costs)

    top_above : is_above (at t.top e) ≡ true
    top_above = sym (ap is_above (get_or-take last t.top e nought (entering_before last t e turn.enters)))
        ∙ (position-Some is_above (take last t.top) e nought turn.enters).1

    top_zero : (k : ℕ) → at t.top (suc k) ≡ nought
    top_zero k = ap (at t.top) (let s : suc k ≡ 1 + k = omega arith in s) ∙ at_top (row ∷ []) (b ∷ []) costs k refl

    first : e ≡ 0
    first = by_column e refl
      where
        by_column : (c : ℕ) → e ≡ c → e ≡ 0
        by_column zero q = q
        by_column (suc c) q = absurd (let f : is_above nought ≡ true = ap is_above (sym (ap (at t.top) q ∙ top_zero c))
            ∙ top_above in let g : is_above nought ≡ false = (most_self nought).is in cc)

    at_new : (c : ℕ) → at (pivot t e r).top c ≡ minus (at t.top c) (times (at t.top e) (at p c))
    at_new c = at-less t.top (at t.top e) p c

    leaver_most : (j : ℕ) → j < length costs → AtMost nought (at p (1 + j))
    leaver_most j l = subst (λ x. AtMost nought x) (sym (at-divided old (at old e) (1 + j)))
        (most_product (at old (1 + j)) (reciprocal (at old e))
        (subst (λ x. AtMost nought x) (sym (ap (λ x. at x.numbers (1 + j)) (start_line (row ∷ []) (b ∷ []) costs r in_costs)
        ∙ at-step (row ∷ []) costs r j l)) (single_most r j))
        (above_most (reciprocal (at old e)) nought (reciprocal_above (at old e) turn.leaves.above)))

    below : (c : ℕ) → c < last → is_above (at (pivot t e r).top c) ≡ false
    below zero l = ap is_above (at_new 0 ∙ ap (λ i. minus (at t.top 0) (times (at t.top i) (at p 0))) first
        ∙ ap (λ x. minus (at t.top 0) (times (at t.top 0) x)) (ap (at p) (sym first) ∙ at-divided old (at old e) e
        ∙ times_reciprocal (at old e) turn.leaves.above)
        ∙ ap (λ x. minus (at t.top 0) x) (times-one (at t.top 0)) ∙ minus_self (at t.top 0)) ∙ (most_self nought).is
    below (suc j) l = ap is_above (at_new (suc j) ∙ ap (λ x. minus x (times (at t.top e) (at p (suc j)))) (top_zero j))
        ∙ ap is_gt (cmp_minus nought (times (at t.top e) (at p (suc j))))
        ∙ (most_product (at t.top e) (at p (suc j)) (above_most (at t.top e) nought top_above)
        (subst (λ i. AtMost nought (at p i)) (let s : 1 + j ≡ suc j = omega arith in s) (leaver_most j (omega arith)))).is

    none : (c : ℕ) → c < length (take last (pivot t e r).top) → is_above (get_or (take last (pivot t e r).top) c nought) ≡ false
    none c l = ap is_above (get_or-take last (pivot t e r).top c nought (omega (arith, length-take last (pivot t e r).top)))
        ∙ below c (omega (arith, length-take last (pivot t e r).top))

-- no turn of the run is wide
pub one_row_narrow : (row : List ℤ) (b : ℤ) (costs : List ℕ) (k : ℕ) → AreSmall (row ∷ []) (b ∷ []) costs
    → IsWideTurn (1 + length costs) (run (1 + length costs) (start (row ∷ []) (b ∷ []) costs) k) → ⊥
one_row_narrow row b costs k h w = by_end k w
  where
    last : ℕ
    last = 1 + length costs

    t : Tableau
    t = start (row ∷ []) (b ∷ []) costs

    -- a best tableau has no wide turn
    best_narrow : (u : Tableau) → next last u ≡ Best → IsWideTurn last u → ⊥
    best_narrow u n (in_quotient e q d) = let f : entering last u ≡ None = best_parts last u n in cc
    best_narrow u n (in_pivot e r q d) = cc

    -- the tableaus of the run: the first one, or a best one
    by_end : (j : ℕ) → IsWideTurn last (run last t j) → ⊥
    by_end j d = ⊎_elim (λ f. first_turn (row ∷ []) (b ∷ []) costs last h (subst (λ u. IsWideTurn last u) f d)) (λ n. best_narrow (run last t j) n d)
        (first_or_best j)
      where
        from_first : (c : Course) → next last t ≡ c → (turned t c ≡ t) ⊎ (next last (turned t c) ≡ Best)
        from_first Best n = inl refl
        from_first (Ray e) n = inl refl
        from_first (Turn e r) n = inr (one_pivot row b costs e r n)

        first_or_best : (j : ℕ) → (run last t j ≡ t) ⊎ (next last (run last t j) ≡ Best)
        first_or_best zero = inl refl
        first_or_best (suc j) = ⊎_elim (λ f. again f) (λ n. inr (ap (λ c. next last (turned (run last t j) c)) n ∙ n)) (first_or_best j)
          where
            again : run last t j ≡ t → (run last t (suc j) ≡ t) ⊎ (next last (run last t (suc j)) ≡ Best)
            again f = subst (λ u. (turned u (next last u) ≡ t) ⊎ (next last (turned u (next last u)) ≡ Best)) (sym f) (from_first (next last t) refl)

-- a tableau stands at an end
abbrev pub Stands : ℕ → Tableau → Type 0
Stands last u = (next last u ≡ Best) ⊎ ((e : ℕ) × (next last u ≡ Ray e))

-- an end stays one
stands_on : (last : ℕ) (u : Tableau) → Stands last u → Stands last (turned u (next last u))
stands_on last u h = ⊎_elim
    (λ n. inl (ap (λ c. next last (turned u c)) n ∙ n))
    (λ r. inr (r.0, ap (λ c. next last (turned u c)) r.1 ∙ r.1)) h

-- after one pivot or more the run stands at an end
pub one_row_stands : (row : List ℤ) (b : ℤ) (costs : List ℕ) (k : ℕ)
    → Stands (1 + length costs) (run (1 + length costs) (start (row ∷ []) (b ∷ []) costs) (suc k))
one_row_stands row b costs zero = by_course (next (1 + length costs) (start (row ∷ []) (b ∷ []) costs)) refl
  where
    by_course : (c : Course) → next (1 + length costs) (start (row ∷ []) (b ∷ []) costs) ≡ c
        → Stands (1 + length costs) (turned (start (row ∷ []) (b ∷ []) costs) c)
    by_course Best n = inl n
    by_course (Ray e) n = inr (e, n)
    by_course (Turn e r) n = inl (one_pivot row b costs e r n)
one_row_stands row b costs (suc k) = stands_on (1 + length costs) (run (1 + length costs) (start (row ∷ []) (b ∷ []) costs) (suc k))
    (one_row_stands row b costs k)

-- an end is no turn
stands_ends : (last : ℕ) (u : Tableau) (e r : ℕ) → next last u ≡ Turn e r → Stands last u → ⊥
stands_ends last u e r n h = by_case h
  where
    by_case : (next last u ≡ Best) ⊎ ((d : ℕ) × (next last u ≡ Ray d)) → ⊥
    by_case (inl b) = let k : Turn e r ≡ Best = sym n ∙ b in cc
    by_case (inr (d, b)) = let k : Turn e r ≡ Ray d = sym n ∙ b in cc

-- so it doesn't go on after one pivot or more
pub one_row_ends : (row : List ℤ) (b : ℤ) (costs : List ℕ) (k : ℕ) → GoesOn (1 + length costs) (suc k) (start (row ∷ []) (b ∷ []) costs) → ⊥
one_row_ends row b costs k g = stands_ends (1 + length costs)
    (run (1 + length costs) (start (row ∷ []) (b ∷ []) costs) (suc k)) g.entering g.leaving g.turns (one_row_stands row b costs k)

-- the start has no number past 2 ^ 81
start_within : (rows : List (List ℤ)) (right : List ℤ) (costs : List ℕ) → AreSmall rows right costs → HasPast (2 ^ 81) (start rows right costs) → ⊥
start_within rows right costs h (in_top_line c l) = absurd (omega (arith, small_size _ (start_small_top rows right costs h c)))
start_within rows right costs h (in_a_line i c w l) = absurd (omega (arith, small_size _ (start_small_line rows right costs h i c)))

-- no number of the run is past 2 ^ 81
pub one_row_within : (row : List ℤ) (b : ℤ) (costs : List ℕ) (k : ℕ) → AreSmall (row ∷ []) (b ∷ []) costs
    → HasPast (2 ^ 81) (run (1 + length costs) (start (row ∷ []) (b ∷ []) costs) k) → ⊥
one_row_within row b costs k h = by_place (run_place k)
  where
    last : ℕ
    last = 1 + length costs

    t : Tableau
    t = start (row ∷ []) (b ∷ []) costs

    -- a tableau of the run is the first one, or a best one with no number past the bound
    Place : Tableau → Type 0
    Place u = (u ≡ t) ⊎ ((next last u ≡ Best) × (HasPast (2 ^ 81) u → ⊥))

    from_first : (c : Course) → next last t ≡ c → Place (turned t c)
    from_first Best n = inl refl
    from_first (Ray e) n = inl refl
    from_first (Turn e r) n = let turn : IsTurn last e r t = turn_parts last t e r n in
        inr (
          one_pivot row b costs e r n,
          small_turned t e r (start_small_top (row ∷ []) (b ∷ []) costs h)
              (start_small_line (row ∷ []) (b ∷ []) costs h) turn.leaves.within turn.leaves.above,
        )

    onward : (u : Tableau) → Place u → Place (turned u (next last u))
    onward u g = ⊎_elim
        (λ f. subst (λ x. Place (turned x (next last x))) (sym f) (from_first (next last t) refl))
        (λ n. inr (subst (λ c. (next last (turned u c) ≡ Best) × (HasPast (2 ^ 81) (turned u c) → ⊥)) (sym (n.0)) n)) g

    run_place : (j : ℕ) → Place (run last t j)
    run_place zero = inl refl
    run_place (suc j) = onward (run last t j) (run_place j)

    by_place : {u : Tableau} → Place u → HasPast (2 ^ 81) u → ⊥
    by_place (inl f) p = start_within (row ∷ []) (b ∷ []) costs h (subst (λ u. HasPast (2 ^ 81) u) f p)
    by_place (inr n) p = n.1 p

-- ---- one row, as a list of rows

-- so a sure arithmetic refuses nothing
pub one_row_free : (rows : List (List ℤ)) (right : List ℤ) (costs : List ℕ) → length rows ≡ 1 → length right ≡ length rows → AreSmall rows right costs
    → IsWideRun (length rows + length costs) (start rows right costs) → ⊥
one_row_free [] right costs l g h w = absurd (omega arith)
one_row_free (row ∷ x ∷ rows) right costs l g h w = absurd (omega arith)
one_row_free (row ∷ []) [] costs l g h w = absurd (omega arith)
one_row_free (row ∷ []) (b ∷ x ∷ right) costs l g h w = absurd (omega arith)
one_row_free (row ∷ []) (b ∷ []) costs l g h (at_turn k w) = one_row_narrow row b costs k h w
one_row_free (row ∷ []) (b ∷ []) costs l g h (at_number k p) =
    one_row_within row b costs k h (past_lower (2 ^ 81) (2 ^ 125) (run (1 + length costs) (start (row ∷ []) (b ∷ []) costs) k) (omega arith) p)

-- and there are never too many pivots
pub one_row_few : (rows : List (List ℤ)) (right : List ℤ) (costs : List ℕ) → length rows ≡ 1 → length right ≡ length rows
    → GoesOn (length rows + length costs) (most_pivots (length rows) (length costs)) (start rows right costs) → ⊥
one_row_few [] right costs l g w = absurd (omega arith)
one_row_few (row ∷ x ∷ rows) right costs l g w = absurd (omega arith)
one_row_few (row ∷ []) [] costs l g w = absurd (omega arith)
one_row_few (row ∷ []) (b ∷ x ∷ right) costs l g w = absurd (omega arith)
one_row_few (row ∷ []) (b ∷ []) costs l g w = let s : most_pivots 1 (length costs) ≡ suc (63 + 8 * (1 + length costs)) = omega arith in
    one_row_ends row b costs (63 + 8 * (1 + length costs)) (subst (λ n. GoesOn (1 + length costs) n (start (row ∷ []) (b ∷ []) costs)) s w)
