-- Where an arithmetic that is sure may refuse.
use Rattle.std.specs.Prelude.{◌≡◌, ◌≢◌, ℕ, ℤ, pos, ◌<◌, ◌≤◌, ◌^◌, Bool, true, false, ◌||◌, List, [], length, get_or, set, unsigned_abs, Some}
use Rattle.np_frac.specs.Fractions.{Fraction, whole, times}
use Rattle.np_frac.specs.Checked.{fits}
use Rattle.np_frac.specs.Sizes.{size, are_wide, are_wide_or_zero}
use Rattle.np_simplex.specs.Packed.{slot_leaver, entering_slot}
use Rattle.np_simplex.specs.Tableau.{nought, Line, Tableau, at, line_at, is_above, leaver, entering, next, run}
use Rattle.np_simplex.specs.declared.choice.Course.TheVariants.{Turn}

-- k * y is wide, or its difference from x
unfoldable pub is_wide_multiple : Fraction → Fraction → Fraction → Bool
is_wide_multiple x k y = are_wide k y || are_wide x (times k y)

-- so it is in some column of two lines
pub record IsWideLess (xs : List Fraction) (k : Fraction) (ys : List Fraction) : Type 0 where
  pub column : ℕ
  pub wide : is_wide_multiple (at xs column) k (at ys column) ≡ true

-- in some column the quotient is wide
pub record IsWideDivided (xs : List Fraction) (a : Fraction) : Type 0 where
  pub column : ℕ
  pub wide : are_wide_or_zero (at xs column) a ≡ true

-- the quotient of a line that may leave is wide
pub record IsWideQuotient (last e : ℕ) (lines : List Line) : Type 0 where
  pub place : ℕ
  pub within : place < length lines
  pub above : is_above (at (line_at lines place).numbers e) ≡ true
  pub wide : are_wide_or_zero (at (line_at lines place).numbers last) (at (line_at lines place).numbers e) ≡ true

-- the quotients of two lines are wide somewhere
unfoldable pub is_wide_pair : ℕ → ℕ → Line → Line → Bool
is_wide_pair last e a b =
    are_wide_or_zero (at a.numbers last) (at a.numbers e) || are_wide_or_zero (at b.numbers last) (at b.numbers e)

-- a line's difference from a multiple of the leaving line is wide
pub record IsWideLine (lines : List Line) (e : ℕ) (leaver : List Fraction) : Type 0 where
  pub place : ℕ
  pub within : place < length lines
  pub wide : IsWideLess (line_at lines place).numbers (at (line_at lines place).numbers e) leaver

-- a pivot is wide somewhere
pub data IsWidePivot (t : Tableau) (e r : ℕ) : Type 0 where
  in_leaver : IsWideDivided (line_at t.lines r).numbers (at (line_at t.lines r).numbers e) → IsWidePivot t e r
  in_top : IsWideLess t.top (at t.top e) (leaver t e r) → IsWidePivot t e r
  in_line : IsWideLine t.lines e (leaver t e r) → IsWidePivot t e r

-- ---- the same of a pivot on a slot

-- a line's difference from a multiple of the leaving line is wide, where the slot holds 0 before
abbrev pub IsWideSlotLess : ℕ → List Fraction → List Fraction → Type 0
IsWideSlotLess s leaver numbers = IsWideLess (set numbers s nought) (at numbers s) leaver

-- so it is in a line that doesn't leave
pub record IsWideOther (lines : List Line) (s r : ℕ) (leaver : List Fraction) : Type 0 where
  pub place : ℕ
  pub within : place < length lines
  pub other : place ≢ r
  pub wide : IsWideSlotLess s leaver (line_at lines place).numbers

-- a pivot on a slot is wide somewhere
pub data IsWideSlot (t : Tableau) (s r : ℕ) : Type 0 where
  in_slot_leaver : IsWideDivided (set (line_at t.lines r).numbers s (whole (pos 1))) (at (line_at t.lines r).numbers s) → IsWideSlot t s r
  in_slot_top : IsWideSlotLess s (slot_leaver s (line_at t.lines r).numbers) t.top → IsWideSlot t s r
  in_slot_line : IsWideOther t.lines s r (slot_leaver s (line_at t.lines r).numbers) → IsWideSlot t s r

-- one turn on a slot is wide somewhere
pub record IsWideSlotTurn (columns : List ℕ) (t : Tableau) : Type 0 where
  pub slot : ℕ
  pub enters : entering_slot columns t.top (length columns) ≡ Some slot
  pub wide : IsWideQuotient (length columns) slot t.lines

-- ---- runs

-- one turn is wide somewhere
pub data IsWideTurn (last : ℕ) (t : Tableau) : Type 0 where
  in_quotient : (e : ℕ) → entering last t ≡ Some e → IsWideQuotient last e t.lines → IsWideTurn last t
  in_pivot : (e r : ℕ) → next last t ≡ Turn e r → IsWidePivot t e r → IsWideTurn last t

-- some turn of the first so many is wide
pub record IsStrained (last most : ℕ) (start : Tableau) : Type 0 where
  pub pivots : ℕ
  pub few : pivots ≤ most
  pub wide : IsWideTurn last (run last start pivots)

-- some number has a size past a bound
pub data HasPast (bound : ℕ) (t : Tableau) : Type 0 where
  in_top_line : (column : ℕ) → bound < size (at t.top column) → HasPast bound t
  in_a_line : (place column : ℕ) → place < length t.lines → bound < size (at (line_at t.lines place).numbers column) → HasPast bound t

-- the negation of a top number is wide
pub record HasWideTop (numbers : List Fraction) : Type 0 where
  pub column : ℕ
  pub wide : are_wide nought (at numbers column) ≡ true

-- the negation of a line's number is wide
pub record HasWideLine (lines : List Line) : Type 0 where
  pub place : ℕ
  pub column : ℕ
  pub within : place < length lines
  pub wide : are_wide nought (at (line_at lines place).numbers column) ≡ true

-- the negation of a number is wide
pub data HasWide (t : Tableau) : Type 0 where
  in_wide_top : HasWideTop t.top → HasWide t
  in_wide_line : HasWideLine t.lines → HasWide t

-- some whole number of a list doesn't fit
pub record HasUnfit (values : List ℤ) : Type 0 where
  pub place : ℕ
  pub within : place < length values
  pub unfit : fits (get_or values place (pos 0)) ≡ false

-- so it is in a step's coefficients
pub record HasUnfitIn (rows : List (List ℤ)) (step : ℕ) : Type 0 where
  pub place : ℕ
  pub within : place < length rows
  pub unfit : fits (get_or (get_or rows place []) step (pos 0)) ≡ false

-- so it is in a step's line
pub data IsUnfitStep (rows : List (List ℤ)) (costs : List ℕ) (step : ℕ) : Type 0 where
  in_coefficients : HasUnfitIn rows step → IsUnfitStep rows costs step
  in_cost : fits (pos (get_or costs step 0)) ≡ false → IsUnfitStep rows costs step

-- so it is in a linear program
pub data IsUnfit (rows : List (List ℤ)) (right : List ℤ) (costs : List ℕ) : Type 0 where
  in_right : HasUnfit right → IsUnfit rows right costs
  in_step : (step : ℕ) → step < length costs → IsUnfitStep rows costs step → IsUnfit rows right costs

-- all given numbers are below 2 ^ 40 in size
pub record AreSmall (rows : List (List ℤ)) (right : List ℤ) (costs : List ℕ) : Type 0 where
  pub coefficients : (i j : ℕ) → unsigned_abs (get_or (get_or rows i []) j (pos 0)) < 2 ^ 40
  pub sides : (i : ℕ) → unsigned_abs (get_or right i (pos 0)) < 2 ^ 40
  pub prices : (j : ℕ) → get_or costs j 0 < 2 ^ 40

-- some tableau of the run has a number past a bound
abbrev pub MeetsPast : ℕ → ℕ → Tableau → Type 0
MeetsPast bound last begin = (k : ℕ) × HasPast bound (run last begin k)

-- somewhere in the run a sure arithmetic may refuse: a turn is wide, or a number is past 2 ^ 125
pub data IsWideRun (last : ℕ) (begin : Tableau) : Type 0 where
  at_turn : (k : ℕ) → IsWideTurn last (run last begin k) → IsWideRun last begin
  at_number : (k : ℕ) → HasPast (2 ^ 125) (run last begin k) → IsWideRun last begin
