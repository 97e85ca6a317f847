-- A tableau without its basic columns, as the code's table stores it: the numbers of some columns and of the last one.
use Rattle.std.specs.Prelude.{◌≡◌, ℕ, zero, suc, ◌+◌, ◌<◌, ◌==◌, ◌&&◌, List, [], ◌∷◌}
use Rattle.std.specs.Prelude.{◌++◌, ℤ, pos, length, get_or, set, map, nat_lt, Option, Some, None, if◌then◌else◌, ◌⊎◌}
use Rattle.std.specs.List.{position, range_with_len}
use Rattle.np_frac.specs.Fractions.{Fraction, whole, minus}
use Rattle.np_simplex.specs.Tableau.{nought, at, is_above, Line, line_at, Tableau, divided, less, leaving, next_from, column, basic_amount, IsSized}
use Rattle.np_simplex.specs.Views.{tableau}
use Rattle.np_simplex.specs.declared.choice.Course.{Course}
use Rattle.np_simplex.specs.declared.choice.Course.TheVariants.{Best, Ray, Turn}
use Rattle.np_simplex.specs.declared.choice.End.{End}
use Rattle.np_simplex.specs.declared.choice.End.TheVariants as ends
use Rattle.np_simplex.specs.declared.pivot.Table.{Table}

-- ---- what is stored

-- these columns and the last one
abbrev pub stored : ℕ → List ℕ → List ℕ
stored last columns = columns ++ last ∷ []

-- the numbers of these columns
abbrev pub pack : List ℕ → List Fraction → List Fraction
pack columns numbers = map (λ c. at numbers c) columns

-- a line with the numbers of these columns alone
abbrev pub pack_line : List ℕ → Line → Line
pack_line columns line = record { basic = line.basic; numbers = pack columns line.numbers }

-- a tableau with the numbers of these columns alone
abbrev pub packed : List ℕ → Tableau → Tableau
packed columns t = record { top = pack columns t.top; lines = map (pack_line columns) t.lines }

-- a column stands in a slot
pub record IsStored (columns : List ℕ) (column : ℕ) : Type 0 where
  pub slot : ℕ
  pub within : slot < length columns
  pub is : get_or columns slot 0 ≡ column

-- a column is basic in a line
pub record IsBasic (lines : List Line) (column : ℕ) : Type 0 where
  pub place : ℕ
  pub within : place < length lines
  pub is : (line_at lines place).basic ≡ column

-- a table holds a tableau: its numbers are those of the stored columns, and each other column before the last one is basic
pub record IsPacked {N : Type 0} (value : N → Fraction) (last : ℕ) (table : Table N) (t : Tableau) : Type 0 where
  pub is : tableau value table ≡ packed (stored last table.columns.items) t
  pub sized : IsSized (last + 1) t
  pub below : (slot : ℕ) → slot < length table.columns.items → get_or table.columns.items slot 0 < last
  pub covers : (column : ℕ) → column < last → IsStored table.columns.items column ⊎ IsBasic t.lines column

-- ---- how it goes on, by slots

-- the better of the slot so far and another one: the number on top is above 0, and the column is the lesser
abbrev pub earlier : List ℕ → List Fraction → Option ℕ → ℕ → Option ℕ
earlier columns top None k = if is_above (at top k) then Some k else None
earlier columns top (Some best) k =
    if is_above (at top k) && nat_lt (get_or columns k 0) (get_or columns best 0) then Some k else Some best

-- the entering slot among the first so many
abbrev pub entering_slot : List ℕ → List Fraction → ℕ → Option ℕ
entering_slot columns top zero = None
entering_slot columns top (suc k) = earlier columns top (entering_slot columns top k) k

-- best where no slot enters
abbrev pub slot_next_of : ℕ → Tableau → Option ℕ → Course
slot_next_of last t None = Best
slot_next_of last t (Some s) = next_from s (leaving last s t.lines (length t.lines))

-- how it goes on
abbrev pub slot_next : List ℕ → Tableau → Course
slot_next columns t = slot_next_of (length columns) t (entering_slot columns t.top (length columns))

-- the same by columns
abbrev pub named : List ℕ → Course → Course
named columns Best = Best
named columns (Ray s) = Ray (get_or columns s 0)
named columns (Turn s r) = Turn (get_or columns s 0) r

-- an end by columns
abbrev pub named_end : List ℕ → End → End
named_end columns ends.Best = ends.Best
named_end columns (ends.Ray s) = ends.Ray (get_or columns s 0)

-- ---- a pivot on a slot

-- the leaving line: 1 in the slot, then divided by what stood there
abbrev pub slot_leaver : ℕ → List Fraction → List Fraction
slot_leaver s numbers = divided (set numbers s (whole (pos 1))) (at numbers s)

-- the numbers of another line: 0 in the slot, less what stood there times the leaving line
abbrev pub slot_less : ℕ → List Fraction → List Fraction → List Fraction
slot_less s leaver numbers = less (set numbers s nought) (at numbers s) leaver

-- another line
abbrev pub slot_cleared : ℕ → List Fraction → Line → Line
slot_cleared s leaver line = record { basic = line.basic; numbers = slot_less s leaver line.numbers }

-- the tableau after the pivot that makes a column basic in a line
abbrev pub slot_pivot : Tableau → ℕ → ℕ → ℕ → Tableau
slot_pivot t e s r = record {
  top = slot_less s (slot_leaver s (line_at t.lines r).numbers) t.top;
  lines = set (map (slot_cleared s (slot_leaver s (line_at t.lines r).numbers)) t.lines) r
      (record { basic = e; numbers = slot_leaver s (line_at t.lines r).numbers });
}

-- ---- the start

-- the line of a step: the rows' coefficients and its cost
abbrev pub slot_line_of : List (List ℤ) → List ℕ → ℕ → Line
slot_line_of rows costs j = record { basic = length rows + j; numbers = column rows j ++ whole (pos (get_or costs j 0)) ∷ [] }

-- the first tableau: the right sides and 0 on top
abbrev pub slot_start : List (List ℤ) → List ℤ → List ℕ → Tableau
slot_start rows right costs = record {
  top = map whole right ++ nought ∷ [];
  lines = map (slot_line_of rows costs) (range_with_len 0 (length costs));
}

-- ---- what is read off

-- the number in a slot, or 0
abbrev pub number_in : List Fraction → Option ℕ → Fraction
number_in numbers None = nought
number_in numbers (Some s) = at numbers s

-- the number in a column, or 0 where it isn't stored
abbrev pub stored_number : List ℕ → List Fraction → ℕ → Fraction
stored_number columns numbers column = number_in numbers (position (λ c. c == column) columns)

-- the steps' counts at a best end
abbrev pub slot_counts : ℕ → ℕ → List ℕ → Tableau → List Fraction
slot_counts m n columns t = map (λ j. minus nought (stored_number columns t.top (m + j))) (range_with_len 0 n)

-- a column's weight at a ray, by the entering column and its slot
abbrev pub slot_ray_number : ℕ → ℕ → List Line → ℕ → Fraction
slot_ray_number e s lines k = if k == e then whole (pos 1) else basic_amount (λ line. minus nought (at line.numbers s)) lines k

-- the rows' weights at a ray
abbrev pub slot_ray_weights : ℕ → ℕ → ℕ → Tableau → List Fraction
slot_ray_weights m e s t = map (slot_ray_number e s t.lines) (range_with_len 0 m)
