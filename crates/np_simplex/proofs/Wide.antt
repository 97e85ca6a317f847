-- A run that is wide somewhere meets a large number.
use Rattle.std.proofs.Common.{◌≡◌, ℕ, zero, suc, ◌+◌, ◌*◌, ◌^◌, ◌<◌, ◌≤◌, Bool, true, false, ℤ, pos, ◌<ℤ◌, ◌*ℤ◌, List, [], ◌∷◌, ◌++◌, get_or, length}
use Rattle.std.proofs.Common.{map, refl, sym, ap, subst, ◌∙◌, arith, ⊎_elim, ◌⊎◌, inl, inr}
use Rattle.std.specs.Prelude.{◌||◌, unsigned_abs, if◌then◌else◌}
use Rattle.std.specs.Ordering.{int_eq}
use Rattle.std.proofs.lemmas.Bool.{cases_lt}
use Rattle.std.proofs.lemmas.Bool.Decides.{nat_tests}
use Rattle.std.proofs.lemmas.Int.{ints, unsigned_abs-mul}
use Rattle.std.proofs.lemmas.List.{get_or-set_same, get_or-map, get_or_append_left, length-map, length-set}
use Rattle.std.specs.List.{range_with_len}
use Rattle.std.proofs.Math.Nat.{mul-le-mul}
use native.Mathlib.Nat.{div-le_self, mul-pos}
use Rattle.np_frac.specs.Gcd.{gcd}
use Rattle.np_frac.specs.Fractions.{Fraction, whole, over, times, abs_quotient}
use Rattle.np_frac.specs.Checked.{is_zero, fits}
use Rattle.np_frac.specs.Field.{whole_num, whole_den}
use Rattle.np_frac.specs.Laws.{den_of}
use Rattle.np_frac.specs.Sizes.{size, are_wide, are_wide_or_zero}
use Rattle.np_simplex.specs.Tableau.{nought, at, is_above, Line, blank, line_at, Tableau, leaver, pivot, cleared, turned, run, column, unit, start}
use Rattle.np_simplex.specs.Widths.{is_wide_multiple, IsWidePivot, in_leaver, in_top, in_line, IsWideTurn, in_quotient, in_pivot, HasPast}
use Rattle.np_simplex.specs.Widths.{in_top_line, in_a_line, MeetsPast, IsWideRun, at_turn, at_number}
use Rattle.np_simplex.proofs.Amounts.{above_num}
use Rattle.np_simplex.proofs.Begin.{start_line, start_lines, length-column}
use Rattle.np_simplex.proofs.Turns.{IsTurn, turn_parts}

-- ---- sizes

pub num_within : (a : Fraction) → unsigned_abs a.num ≤ size a
unfolding size
num_within a = grind (arith, nat_tests)

pub den_within : (a : Fraction) → a.den ≤ size a
unfolding size
den_within a = grind (arith, nat_tests)

-- a size from bounds of both numbers
pub size_from : (a : Fraction) (s : ℕ) → unsigned_abs a.num ≤ s → a.den ≤ s → size a ≤ s
unfolding size
size_from a s h k = grind (arith, nat_tests)

-- reducing makes neither number larger
pub over_parts : (n : ℤ) (d s u : ℕ) → 0 < d → unsigned_abs n ≤ s → d ≤ u → (unsigned_abs (over n d).num ≤ s) × ((over n d).den ≤ u)
unfolding over
over_parts n zero s u p h k = absurd (omega arith)
over_parts n (suc d) s u p h k = (
  omega (arith, abs_quotient n (gcd (unsigned_abs n) (suc d)), div-le_self (unsigned_abs n) (gcd (unsigned_abs n) (suc d))),
  omega (arith, div-le_self (suc d) (gcd (unsigned_abs n) (suc d))),
)

-- nor the size
pub over_within : (n : ℤ) (d s : ℕ) → 0 < d → unsigned_abs n ≤ s → d ≤ s → size (over n d) ≤ s
unfolding over
over_within n zero s p h k = absurd (omega arith)
over_within n (suc d) s p h k = size_from (over n (suc d)) s
    (omega (arith, abs_quotient n (gcd (unsigned_abs n) (suc d)), div-le_self (unsigned_abs n) (gcd (unsigned_abs n) (suc d))))
    (omega (arith, div-le_self (suc d) (gcd (unsigned_abs n) (suc d))))

-- the size of a product
pub size-times : (a b : Fraction) → size (times a b) ≤ size a * size b
unfolding times
size-times a b =
    let n : unsigned_abs a.num * unsigned_abs b.num ≤ size a * size b = mul-le-mul (num_within a) (num_within b) in
    let e : unsigned_abs (a.num *ℤ b.num) ≡ unsigned_abs a.num * unsigned_abs b.num = unsigned_abs-mul a.num b.num in
    let d : a.den * b.den ≤ size a * size b = mul-le-mul (den_within a) (den_within b) in
    over_within (a.num *ℤ b.num) (a.den * b.den) (size a * size b) (mul-pos (den_of a) (den_of b)) (omega arith) d

-- wide numbers have large sizes
pub wide_sizes : (a b : Fraction) → are_wide a b ≡ true → 2 ^ 125 < size a * size b
unfolding are_wide
wide_sizes a b e = grind (arith, nat_tests)

-- a divisor above 0 isn't 0
pub wide_quotient : (a b : Fraction) → are_wide_or_zero a b ≡ true → is_above b ≡ true → 2 ^ 125 < size a * size b
wide_quotient a b e h = wide_sizes a b (split (is_zero b) (are_wide a b) (none b.num (above_num b h)) e)
  where
    none : (n : ℤ) → pos 0 <ℤ n → int_eq n (pos 0) ≡ false
    none n l = grind (arith, ints)

    split : (z w : Bool) → z ≡ false → (if z then true else w) ≡ true → w ≡ true
    split true w f g = cc
    split false w f g = g

-- one of two numbers with a large product is large
one_large : (s t : ℕ) → 2 ^ 125 < s * t → (2 ^ 30 < s) ⊎ (2 ^ 30 < t)
one_large s t h = ⊎_elim (λ l. inl l) (λ a. ⊎_elim (λ l. inr l) (λ b. absurd (let m : s * t ≤ 2 ^ 30 * 2 ^ 30 = mul-le-mul a b in omega arith))
    (cases_lt (2 ^ 30) t)) (cases_lt (2 ^ 30) s)

-- so is one of the three numbers of a difference from a multiple
three_large : (x k y : Fraction) → is_wide_multiple x k y ≡ true → (2 ^ 30 < size x) ⊎ ((2 ^ 30 < size k) ⊎ (2 ^ 30 < size y))
unfolding is_wide_multiple
three_large x k y h = split (are_wide k y) (are_wide x (times k y)) refl refl h
  where
    split : (p q : Bool) → are_wide k y ≡ p → are_wide x (times k y) ≡ q → (p || q) ≡ true
        → (2 ^ 30 < size x) ⊎ ((2 ^ 30 < size k) ⊎ (2 ^ 30 < size y))
    split true q f g e = inr (one_large (size k) (size y) (wide_sizes k y f))
    split false true f g e =
        ⊎_elim (λ l. inl l) (λ a. ⊎_elim (λ l. inr (inl l)) (λ b. ⊎_elim (λ l. inr (inr l)) (λ c. absurd (
        let m : size k * size y ≤ 2 ^ 30 * 2 ^ 30 = mul-le-mul b c in
        let u : size (times k y) ≤ 2 ^ 30 * 2 ^ 30 = omega (arith, size-times k y) in
        let v : size x * size (times k y) ≤ 2 ^ 30 * (2 ^ 30 * 2 ^ 30) = mul-le-mul a u in
        omega (arith, wide_sizes x (times k y) g)))
        (cases_lt (2 ^ 30) (size y))) (cases_lt (2 ^ 30) (size k))) (cases_lt (2 ^ 30) (size x))
    split false false f g e = cc

-- ---- runs

-- a number of the leaving line stands in the tableau after the pivot
leaver_past : (t : Tableau) (e r c : ℕ) → r < length t.lines → 2 ^ 30 < size (at (leaver t e r) c) → HasPast (2 ^ 30) (pivot t e r)
leaver_past t e r c l h = in_a_line r c (omega
    (arith, length-set (map (cleared e (leaver t e r)) t.lines) r new, length-map t.lines (cleared e (leaver t e r))))
    (subst (λ x. 2 ^ 30 < size (at x.numbers c))
    (sym (get_or-set_same (map (cleared e (leaver t e r)) t.lines) r new blank (omega (arith, length-map t.lines (cleared e (leaver t e r)))))) h)
  where
    new : Line
    new = record { basic = e; numbers = leaver t e r }

-- a wide turn
pub wide_turn_past : (last : ℕ) (begin : Tableau) (k : ℕ) → IsWideTurn last (run last begin k) → MeetsPast (2 ^ 30) last begin
wide_turn_past last begin k (in_quotient e q w) = let t : Tableau = run last begin k in
    ⊎_elim (λ l. (k, in_a_line w.place last w.within l)) (λ l. (k, in_a_line w.place e w.within l))
    (one_large (size (at (line_at t.lines w.place).numbers last)) (size (at (line_at t.lines w.place).numbers e)) (wide_quotient _ _ w.wide w.above))
wide_turn_past last begin k (in_pivot e r n w) = in_turn (turn_parts last t e r n) w
  where
    t : Tableau
    t = run last begin k

    after : HasPast (2 ^ 30) (pivot t e r) → (j : ℕ) × HasPast (2 ^ 30) (run last begin j)
    after h = (suc k, subst (λ c. HasPast (2 ^ 30) (turned t c)) (sym n) h)

    in_turn : IsTurn last e r t → IsWidePivot t e r → (j : ℕ) × HasPast (2 ^ 30) (run last begin j)
    in_turn h (in_leaver d) =
        ⊎_elim (λ l. (k, in_a_line r d.column h.leaves.within l)) (λ l. (k, in_a_line r e h.leaves.within l))
        (one_large (size (at (line_at t.lines r).numbers d.column)) (size (at (line_at t.lines r).numbers e))
        (wide_quotient _ _ d.wide h.leaves.above))
    in_turn h (in_top d) =
        ⊎_elim (λ l. (k, in_top_line d.column l))
        (λ m. ⊎_elim (λ l. (k, in_top_line e l)) (λ l. after (leaver_past t e r d.column h.leaves.within l)) m)
        (three_large (at t.top d.column) (at t.top e) (at (leaver t e r) d.column) d.wide)
    in_turn h (in_line d) =
        ⊎_elim (λ l. (k, in_a_line d.place d.wide.column d.within l))
        (λ m. ⊎_elim (λ l. (k, in_a_line d.place e d.within l)) (λ l. after (leaver_past t e r d.wide.column h.leaves.within l)) m)
        (three_large (at (line_at t.lines d.place).numbers d.wide.column) (at (line_at t.lines d.place).numbers e)
        (at (leaver t e r) d.wide.column) d.wide.wide)

-- a number past a bound is past a lower one
pub past_lower : (low high : ℕ) (t : Tableau) → low ≤ high → HasPast high t → HasPast low t
past_lower low high t h (in_top_line c l) = in_top_line c (omega arith)
past_lower low high t h (in_a_line i c w l) = in_a_line i c w (omega arith)

-- a run that is wide somewhere meets a number past 2 ^ 30
pub wide_run_past : (last : ℕ) (begin : Tableau) → IsWideRun last begin → MeetsPast (2 ^ 30) last begin
wide_run_past last begin (at_turn k w) = wide_turn_past last begin k w
wide_run_past last begin (at_number k h) = (k, past_lower (2 ^ 30) (2 ^ 125) (run last begin k) (omega arith) h)

-- ---- refused numbers

-- 0 less a number is refused only past 2 ^ 125
pub negated_past : (x : Fraction) → are_wide nought x ≡ true → 2 ^ 125 < size x
negated_past x e =
    let u : size nought ≤ 1 = size_from nought 1 (omega (arith, ap unsigned_abs (whole_num (pos 0)))) (omega (arith, whole_den (pos 0))) in
    let m : size nought * size x ≤ 1 * size x = mul-le-mul u (omega arith) in
    omega (arith, wide_sizes nought x e)

-- a refused whole number is past 2 ^ 125
pub whole_past : (n : ℤ) → fits n ≡ false → 2 ^ 125 < size (whole n)
whole_past n e =
    let u : 2 ^ 127 ≤ unsigned_abs n = grind (arith, nat_tests) in
    omega (arith, num_within (whole n), ap unsigned_abs (whole_num n))

-- a cost isn't refused
pub cost_fits : (n : ℕ) → n < 2 ^ 64 → fits (pos n) ≡ true
cost_fits n h = grind (arith, nat_tests, ints)

-- where the start has a refused number
pub refused_side : (rows : List (List ℤ)) (right : List ℤ) (costs : List ℕ) (i : ℕ) → i < length right → fits (get_or right i (pos 0)) ≡ false
    → HasPast (2 ^ 125) (start rows right costs)
refused_side rows right costs i l e = in_top_line i (subst (λ x. 2 ^ 125 < size x)
    (sym (get_or_append_left (map whole right) zeros nought i (omega (arith, length-map right whole)) ∙ get_or-map whole right i (pos 0) nought l))
    (whole_past (get_or right i (pos 0)) e))
  where
    zeros : List Fraction
    zeros = map (λ k. nought) (range_with_len 0 (length costs + 1))

pub refused_coefficient : (rows : List (List ℤ)) (right : List ℤ) (costs : List ℕ) (i j : ℕ) → i < length rows → j < length costs
    → fits (get_or (get_or rows i []) j (pos 0)) ≡ false → HasPast (2 ^ 125) (start rows right costs)
refused_coefficient rows right costs i j l k e = in_a_line j i (omega (arith, start_lines rows right costs)) (subst (λ x. 2 ^ 125 < size x)
    (sym (ap (λ x. at x.numbers i) (start_line rows right costs j k)
    ∙ get_or_append_left (column rows j) (unit (length costs) j ++ whole (pos (get_or costs j 0)) ∷ []) nought i (omega (arith, length-column rows j))
    ∙ get_or-map (λ row. whole (get_or row j (pos 0))) rows i [] nought l))
    (whole_past (get_or (get_or rows i []) j (pos 0)) e))
