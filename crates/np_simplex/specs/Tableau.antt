-- The plain run of the simplex: a tableau, its pivots, and where it ends.
use Rattle.std.specs.Prelude.{◌≡◌, ℕ, zero, suc, ◌+◌, ◌≤◌, ◌<◌, ◌==◌, Bool, ◌&&◌, List, []}
use Rattle.std.specs.Prelude.{◌∷◌, ◌++◌, ℤ, pos, length, get_or, set, map, take, nat_lt, Option, Some, None, if◌then◌else◌}
use Rattle.std.specs.List.{range_with_len, position}
use Rattle.std.specs.Ordering.{is_lt, is_eq, is_gt}
use Rattle.np_frac.specs.Fractions.{Fraction, whole, minus, times, fraction_cmp}
use Rattle.np_frac.specs.Checked.{reciprocal}
use Rattle.np_simplex.specs.declared.choice.Course.{Course}
use Rattle.np_simplex.specs.declared.choice.End.{End}
use Rattle.np_simplex.specs.declared.choice.End.TheVariants as ends
use Rattle.np_simplex.specs.declared.choice.Course.TheVariants.{Best, Ray, Turn}

-- no amount
abbrev pub nought : Fraction
nought = whole (pos 0)

-- above 0
abbrev pub is_above : Fraction → Bool
is_above a = is_gt (fraction_cmp a nought)

-- the number in a column, which is 0 past the end
abbrev pub at : List Fraction → ℕ → Fraction
at numbers k = get_or numbers k nought

-- a line of the tableau: its basic column and its numbers
pub record Line : Type 0 where
  pub basic : ℕ
  pub numbers : List Fraction

-- a line without numbers
abbrev pub blank : Line
blank = record { basic = 0; numbers = [] }

-- the line at a place
abbrev pub line_at : List Line → ℕ → Line
line_at lines k = get_or lines k blank

-- the top line, and a line per step
pub record Tableau : Type 0 where
  pub top : List Fraction
  pub lines : List Line

-- the first column before the last one whose top number is above 0
abbrev pub entering : ℕ → Tableau → Option ℕ
entering last t = position is_above (take last t.top)

-- the last number of a line by its number in the entering column
abbrev pub quotient : ℕ → ℕ → Line → Fraction
quotient last e line = times (at line.numbers last) (reciprocal (at line.numbers e))

-- the first line's quotient is less, or it is equal and its basic column is before the other's
abbrev pub is_before : ℕ → ℕ → Line → Line → Bool
is_before last e a b =
    if is_eq (fraction_cmp (quotient last e a) (quotient last e b)) then nat_lt a.basic b.basic
    else is_lt (fraction_cmp (quotient last e a) (quotient last e b))

-- the better of a line that may leave and the one at a place
abbrev pub better : ℕ → ℕ → List Line → Option ℕ → ℕ → Option ℕ
better last e lines None k = if is_above (at (line_at lines k).numbers e) then Some k else None
better last e lines (Some best) k =
    if is_above (at (line_at lines k).numbers e) && is_before last e (line_at lines k) (line_at lines best) then Some k else Some best

-- the leaving line among the first so many
abbrev pub leaving : ℕ → ℕ → List Line → ℕ → Option ℕ
leaving last e lines zero = None
leaving last e lines (suc k) = better last e lines (leaving last e lines k) k

-- the numbers divided by one
abbrev pub divided : List Fraction → Fraction → List Fraction
divided numbers a = map (λ x. times x (reciprocal a)) numbers

-- the first numbers, less a multiple of the second; missing ones are 0
abbrev pub less : List Fraction → Fraction → List Fraction → List Fraction
less [] k [] = []
less [] k (y ∷ ys) = minus nought (times k y) ∷ less [] k ys
less (x ∷ xs) k [] = x ∷ less xs k []
less (x ∷ xs) k (y ∷ ys) = minus x (times k y) ∷ less xs k ys

-- a line with the entering column cleared by the leaving line
abbrev pub cleared : ℕ → List Fraction → Line → Line
cleared e leaver line = record { basic = line.basic; numbers = less line.numbers (at line.numbers e) leaver }

-- the leaving line of a pivot, divided
abbrev pub leaver : Tableau → ℕ → ℕ → List Fraction
leaver t e r = divided (line_at t.lines r).numbers (at (line_at t.lines r).numbers e)

-- the tableau after the pivot
abbrev pub pivot : Tableau → ℕ → ℕ → Tableau
pivot t e r = record {
  top = less t.top (at t.top e) (leaver t e r);
  lines = set (map (cleared e (leaver t e r)) t.lines) r (record { basic = e; numbers = leaver t e r });
}

-- a ray where no line leaves
abbrev pub next_from : ℕ → Option ℕ → Course
next_from e None = Ray e
next_from e (Some r) = Turn e r

-- best where no column enters
abbrev pub next_of : ℕ → Tableau → Option ℕ → Course
next_of last t None = Best
next_of last t (Some e) = next_from e (leaving last e t.lines (length t.lines))

-- how it goes on
abbrev pub next : ℕ → Tableau → Course
next last t = next_of last t (entering last t)

-- the tableau after that
abbrev pub turned : Tableau → Course → Tableau
turned t Best = t
turned t (Ray e) = t
turned t (Turn e r) = pivot t e r

-- the tableau after so many pivots, or at the end
abbrev pub run : ℕ → Tableau → ℕ → Tableau
run last start zero = start
run last start (suc k) = turned (run last start k) (next last (run last start k))

-- each line has so many numbers
pub record IsShaped (width : ℕ) (lines : List Line) : Type 0 where
  pub is : (k : ℕ) → k < length lines → length (line_at lines k).numbers ≡ width

-- the top line and each other one have so many numbers
pub record IsSized (width : ℕ) (t : Tableau) : Type 0 where
  pub top : length t.top ≡ width
  pub shaped : IsShaped width t.lines

-- an end as a course
abbrev pub course_of : End → Course
course_of ends.Best = Best
course_of (ends.Ray e) = Ray e

-- the tableau stands at an end of the run from another one, after no more than so many pivots
pub record IsEnd (last most : ℕ) (start t : Tableau) (end : End) : Type 0 where
  pub pivots : ℕ
  pub few : pivots ≤ most
  pub is : t ≡ run last start pivots
  pub ends : next last t ≡ course_of end

-- the run goes on after so many pivots
pub record GoesOn (last most : ℕ) (start : Tableau) : Type 0 where
  pub entering : ℕ
  pub leaving : ℕ
  pub turns : next last (run last start most) ≡ Turn entering leaving

-- ---- the start

-- 1 in its own column
abbrev pub unit : ℕ → ℕ → List Fraction
unit n j = map (λ k. if k == j then whole (pos 1) else nought) (range_with_len 0 n)

-- the coefficients of the rows on a step
abbrev pub column : List (List ℤ) → ℕ → List Fraction
column rows j = map (λ row. whole (get_or row j (pos 0))) rows

-- the line of a step: the rows' coefficients, 1 in its own column, its cost
abbrev pub line_of : List (List ℤ) → List ℕ → ℕ → Line
line_of rows costs j = record {
  basic = length rows + j;
  numbers = column rows j ++ (unit (length costs) j ++ whole (pos (get_or costs j 0)) ∷ []);
}

-- the first tableau: the top line has the right sides, then zeros
abbrev pub start : List (List ℤ) → List ℤ → List ℕ → Tableau
start rows right costs = record {
  top = map whole right ++ map (λ k. nought) (range_with_len 0 (length costs + 1));
  lines = map (line_of rows costs) (range_with_len 0 (length costs));
}

-- ---- the weights at the end

-- the amount that a line gives its basic column; 0 in a column that is basic in no line
abbrev pub basic_amount : (Line → Fraction) → List Line → ℕ → Fraction
basic_amount amount [] k = nought
basic_amount amount (line ∷ lines) k = if line.basic == k then amount line else basic_amount amount lines k

-- the rows' weights at a best end
abbrev pub best_weights : ℕ → ℕ → Tableau → List Fraction
best_weights m last t = map (basic_amount (λ line. at line.numbers last) t.lines) (range_with_len 0 m)

-- the steps' counts at a best end: 0 less the top numbers in the steps' columns
abbrev pub best_counts : ℕ → ℕ → Tableau → List Fraction
best_counts m n t = map (λ j. minus nought (at t.top (m + j))) (range_with_len 0 n)

-- a column's weight at a ray
abbrev pub ray_number : ℕ → List Line → ℕ → Fraction
ray_number e lines k = if k == e then whole (pos 1) else basic_amount (λ line. minus nought (at line.numbers e)) lines k

-- the rows' weights at a ray
abbrev pub ray_weights : ℕ → ℕ → Tableau → List Fraction
ray_weights m e t = map (ray_number e t.lines) (range_with_len 0 m)
