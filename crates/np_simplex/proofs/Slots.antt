-- A tableau by the slots of its stored columns.
use Rattle.std.proofs.Common.{◌≡◌, ℕ, zero, suc, ◌+◌, ◌<◌, ◌≤◌, Bool, true, false, List, [], ◌∷◌, Option, Some, None, length, map, take, get_or, refl}
use Rattle.std.proofs.Common.{sym, ap, subst, ◌∙◌, arith, ◌⊎◌, inl, inr, ⊎_elim}
use Rattle.std.specs.Prelude.{nat_lt, if◌then◌else◌, ◌&&◌}
use Rattle.std.specs.Ordering.{is_lt, is_eq, is_gt}
use Rattle.np_frac.specs.Order.{cmp_self}
use Rattle.std.proofs.lemmas.List.{length-map, length-append, length-take-le, get_or-map, get_or-take, get_or_append_left}
use Rattle.std.proofs.lemmas.Bool.{cases_lt}
use Rattle.std.proofs.lemmas.Bool.Decides.{nat_tests}
use Rattle.np_frac.specs.Fractions.{Fraction, fraction_cmp}
use Rattle.np_simplex.specs.Tableau.{nought, at, is_above, quotient, is_before, better, leaving, entering, next_from, next_of, next, Line, blank}
use Rattle.np_simplex.specs.Tableau.{line_at, Tableau, IsSized}
use Rattle.np_simplex.specs.Packed.{stored, pack, pack_line, packed, IsStored, IsBasic, earlier, entering_slot, slot_next_of, slot_next, named}
use Rattle.np_simplex.specs.declared.choice.Course.TheVariants.{Ray, Turn}
use Rattle.np_simplex.proofs.Shapes.{found_at, found_none}
use Rattle.np_simplex.proofs.Pivots.{IsReached}
use Rattle.np_simplex.proofs.Least.{LeavingIs, leaving_is}

-- ---- one number

-- a number past the end
pub at_past : (xs : List Fraction) (k : ℕ) → length xs ≤ k → at xs k ≡ nought
at_past [] k l = refl
at_past (x ∷ xs) zero l = absurd (omega arith)
at_past (x ∷ xs) (suc k) l = at_past xs k (omega arith)

-- a number of the columns is one of the line; past the columns it is that in any column past the end
pub at_pack : (columns : List ℕ) (xs : List Fraction) (k d : ℕ) → length xs ≤ d → at (pack columns xs) k ≡ at xs (get_or columns k d)
at_pack [] xs k d l = sym (at_past xs d l)
at_pack (c ∷ columns) xs zero d l = refl
at_pack (c ∷ columns) xs (suc k) d l = at_pack columns xs k d l

-- a number of a slot
pub at_slot : (columns : List ℕ) (xs : List Fraction) (k : ℕ) → k < length columns → at (pack columns xs) k ≡ at xs (get_or columns k 0)
at_slot columns xs k l = get_or-map (λ c. at xs c) columns k 0 nought l

-- a line of the columns
pub line_slot : (columns : List ℕ) (lines : List Line) (r : ℕ) → r < length lines
    → line_at (map (pack_line columns) lines) r ≡ pack_line columns (line_at lines r)
line_slot columns lines r l = get_or-map (pack_line columns) lines r blank blank l

-- there is no line past the end
line_past : (lines : List Line) (r : ℕ) → length lines ≤ r → line_at lines r ≡ blank
line_past [] r l = refl
line_past (x ∷ xs) zero l = absurd (omega arith)
line_past (x ∷ xs) (suc r) l = line_past xs r (omega arith)

-- a line's number in a slot
pub at_line : (columns : List ℕ) (lines : List Line) (r k : ℕ) → k < length columns
    → at (line_at (map (pack_line columns) lines) r).numbers k ≡ at (line_at lines r).numbers (get_or columns k 0)
at_line columns lines r k l = ⊎_elim
    (λ b. ap (λ x. at x.numbers k) (line_slot columns lines r b) ∙ at_slot columns (line_at lines r).numbers k l)
    (λ b. ap (λ x. at x.numbers k) (line_past (map (pack_line columns) lines) r (omega (arith, length-map lines (pack_line columns))))
    ∙ ap (λ x. at x.numbers (get_or columns k 0)) (sym (line_past lines r b)))
    (cases_lt r (length lines))

-- its basic column
pub basic_line : (columns : List ℕ) (lines : List Line) (r : ℕ) → (line_at (map (pack_line columns) lines) r).basic ≡ (line_at lines r).basic
basic_line columns lines r = ⊎_elim
    (λ b. ap (λ x. x.basic) (line_slot columns lines r b))
    (λ b. ap (λ x. x.basic) (line_past (map (pack_line columns) lines) r (omega (arith, length-map lines (pack_line columns))))
    ∙ ap (λ x. x.basic) (sym (line_past lines r b)))
    (cases_lt r (length lines))

-- the slots before the last one
pub stored_slot : (last : ℕ) (columns : List ℕ) (s : ℕ) → s < length columns → get_or (stored last columns) s 0 ≡ get_or columns s 0
stored_slot last columns s l = get_or_append_left columns (last ∷ []) 0 s l

-- the last slot
pub stored_last : (last : ℕ) (columns : List ℕ) → get_or (stored last columns) (length columns) 0 ≡ last
stored_last last [] = refl
stored_last last (c ∷ columns) = stored_last last columns

pub length_stored : (last : ℕ) (columns : List ℕ) → length (stored last columns) ≡ length columns + 1
length_stored last columns = length-append columns (last ∷ [])

-- ---- the leaving line

-- which line is before, from both quotients and basic columns
abbrev decided : Fraction → Fraction → ℕ → ℕ → Bool
decided a b i j = if is_eq (fraction_cmp a b) then nat_lt i j else is_lt (fraction_cmp a b)

-- lines that agree in their last numbers, entering numbers and basic columns
record Agree (last e : ℕ) (lines : List Line) (w s : ℕ) (others : List Line) : Type 0 where
  lasts : (k : ℕ) → at (line_at others k).numbers w ≡ at (line_at lines k).numbers last
  enters : (k : ℕ) → at (line_at others k).numbers s ≡ at (line_at lines k).numbers e
  basics : (k : ℕ) → (line_at others k).basic ≡ (line_at lines k).basic

before_same : (last e : ℕ) (lines : List Line) (w s : ℕ) (others : List Line) → Agree last e lines w s others → (k b : ℕ)
    → is_before w s (line_at others k) (line_at others b) ≡ is_before last e (line_at lines k) (line_at lines b)
before_same last e lines w s others h k b =
    ap (λ a. decided a (quotient w s (line_at others b)) (line_at others k).basic (line_at others b).basic) (same k)
    ∙ ap (λ a. decided (quotient last e (line_at lines k)) a (line_at others k).basic (line_at others b).basic) (same b)
    ∙ ap (λ i. decided (quotient last e (line_at lines k)) (quotient last e (line_at lines b)) i (line_at others b).basic) (h.basics k)
    ∙ ap (λ i. decided (quotient last e (line_at lines k)) (quotient last e (line_at lines b)) (line_at lines k).basic i) (h.basics b)
  where
    same : (i : ℕ) → quotient w s (line_at others i) ≡ quotient last e (line_at lines i)
    same i = rw (h.lasts i, h.enters i) refl

better_same : (last e : ℕ) (lines : List Line) (w s : ℕ) (others : List Line) → Agree last e lines w s others → (o : Option ℕ) (k : ℕ)
    → better w s others o k ≡ better last e lines o k
better_same last e lines w s others h None k = ap (λ x. if is_above x then Some k else None) (h.enters k)
better_same last e lines w s others h (Some b) k =
    ap (λ x. if is_above x && is_before w s (line_at others k) (line_at others b) then Some k else Some b) (h.enters k)
    ∙ ap (λ x. if is_above (at (line_at lines k).numbers e) && x then Some k else Some b) (before_same last e lines w s others h k b)

leaving_same : (last e : ℕ) (lines : List Line) (w s : ℕ) (others : List Line) → Agree last e lines w s others → (n : ℕ)
    → leaving w s others n ≡ leaving last e lines n
leaving_same last e lines w s others h zero = refl
leaving_same last e lines w s others h (suc n) = better_same last e lines w s others h (leaving w s others n) n
    ∙ ap (λ o. better last e lines o n) (leaving_same last e lines w s others h n)

-- the leaving line of the columns is that of the tableau
pub leaving_slot : (last : ℕ) (columns : List ℕ) (lines : List Line) (s n : ℕ) → s < length columns
    → leaving (length columns) s (map (pack_line (stored last columns)) lines) n ≡ leaving last (get_or columns s 0) lines n
leaving_slot last columns lines s n l = leaving_same last (get_or columns s 0) lines (length columns) s (map (pack_line (stored last columns)) lines)
    (record {
      lasts = λ k. at_line (stored last columns) lines k (length columns) (omega (arith, length_stored last columns))
          ∙ ap (λ c. at (line_at lines k).numbers c) (stored_last last columns);
      enters = λ k. at_line (stored last columns) lines k s (omega (arith, length_stored last columns))
          ∙ ap (λ c. at (line_at lines k).numbers c) (stored_slot last columns s l);
      basics = λ k. basic_line (stored last columns) lines k;
    }) n

-- ---- the entering column

-- the slot may enter, and no slot of the first so many that may enter has a lesser column
pub record IsFirstSlot (columns : List ℕ) (top : List Fraction) (n s : ℕ) : Type 0 where
  pub within : s < n
  pub above : is_above (at top s) ≡ true
  pub first : (i : ℕ) → i < n → is_above (at top i) ≡ true → get_or columns s 0 ≤ get_or columns i 0

abbrev pub EnteringIs : List ℕ → List Fraction → ℕ → Option ℕ → Type 0
EnteringIs columns top n None = (i : ℕ) → i < n → is_above (at top i) ≡ false
EnteringIs columns top n (Some s) = IsFirstSlot columns top n s

below_or : (n i : ℕ) → i < suc n → (i < n) ⊎ (i ≡ n)
below_or n i k = ⊎_elim (λ l. inl l) (λ g. let e : i ≡ n = omega arith in inr e) (cases_lt i n)

earlier_is : (columns : List ℕ) (top : List Fraction) (n : ℕ) (o : Option ℕ) → EnteringIs columns top n o
    → EnteringIs columns top (suc n) (earlier columns top o n)
earlier_is columns top n None h = split (is_above (at top n)) refl
  where
    split : (b : Bool) → is_above (at top n) ≡ b → EnteringIs columns top (suc n) (if b then Some n else None)
    split true f = record {
      within = omega arith;
      above = f;
      first = λ i k a. ⊎_elim (λ l. absurd (let g : is_above (at top i) ≡ false = h i l in cc)) (λ d. omega (arith, ap (λ j. get_or columns j 0) d))
          (below_or n i k);
    }
    split false f = λ i k. ⊎_elim (λ l. h i l) (λ d. ap (λ j. is_above (at top j)) d ∙ f) (below_or n i k)
earlier_is columns top n (Some s) h = split (is_above (at top n)) (nat_lt (get_or columns n 0) (get_or columns s 0)) refl refl
  where
    split : (b c : Bool) → is_above (at top n) ≡ b → nat_lt (get_or columns n 0) (get_or columns s 0) ≡ c
        → EnteringIs columns top (suc n) (if b && c then Some n else Some s)
    split true true f g = let less : get_or columns n 0 < get_or columns s 0 = grind (arith, nat_tests) in record {
      within = omega arith;
      above = f;
      first = λ i k a. ⊎_elim (λ l. omega (arith, h.first i l a)) (λ d. omega (arith, ap (λ j. get_or columns j 0) d)) (below_or n i k);
    }
    split true false f g = let most : get_or columns s 0 ≤ get_or columns n 0 = grind (arith, nat_tests) in record {
      within = omega (arith, h.within);
      above = h.above;
      first = λ i k a. ⊎_elim (λ l. h.first i l a) (λ d. omega (arith, ap (λ j. get_or columns j 0) d)) (below_or n i k);
    }
    split false c f g = record {
      within = omega (arith, h.within);
      above = h.above;
      first = λ i k a. ⊎_elim (λ l. h.first i l a) (λ d. absurd (let q : is_above (at top n) ≡ true = ap (λ j. is_above (at top j)) (sym d)
          ∙ a in cc)) (below_or n i k);
    }

-- what is known of the entering slot
pub entering_is : (columns : List ℕ) (top : List Fraction) (n : ℕ) → EnteringIs columns top n (entering_slot columns top n)
entering_is columns top zero = λ i l. absurd (omega arith)
entering_is columns top (suc n) = earlier_is columns top n (entering_slot columns top n) (entering_is columns top n)

-- ---- a table that holds a tableau

-- a basic column isn't above 0 on top
basic_low : (m last : ℕ) (begin t : Tableau) (k : ℕ) → IsReached m last begin t → IsBasic t.lines k → is_above (at t.top k) ≡ false
basic_low m last begin t k h b = ap is_above (ap (λ c. at t.top c) (sym b.is) ∙ h.top_units b.place b.within) ∙ ap is_gt (cmp_self nought)

-- the top number in a slot
pub top_slot : (last : ℕ) (columns : List ℕ) (t : Tableau) (s : ℕ) → s < length columns
    → at (pack (stored last columns) t.top) s ≡ at t.top (get_or columns s 0)
top_slot last columns t s l = at_slot (stored last columns) t.top s (omega (arith, length_stored last columns))
    ∙ ap (λ c. at t.top c) (stored_slot last columns s l)

-- no column enters where no slot does
enters_none : (m last : ℕ) (begin t : Tableau) (columns : List ℕ) → IsReached m last begin t → IsSized (last + 1) t
    → ((k : ℕ) → k < last → IsStored columns k ⊎ IsBasic t.lines k) → EnteringIs columns (pack (stored last columns) t.top) (length columns) None
    → entering last t ≡ None
enters_none m last begin t columns h z cover low = sym (found_none is_above (take last t.top) nought (λ j b.
    let l : j < last = omega (arith, length-take-le last t.top (omega (arith, z.top))) in
    ap is_above (get_or-take last t.top j nought l) ∙ ⊎_elim
    (λ (x : IsStored columns j). ap is_above (sym (top_slot last columns t x.slot x.within ∙ ap (λ c. at t.top c) x.is)) ∙ low x.slot x.within)
    (λ (x : IsBasic t.lines j). basic_low m last begin t j h x)
    (cover j l)))

-- the first column enters where its slot does
enters_some : (m last : ℕ) (begin t : Tableau) (columns : List ℕ) (s : ℕ) → IsReached m last begin t → IsSized (last + 1) t
    → ((i : ℕ) → i < length columns → get_or columns i 0 < last) → ((k : ℕ) → k < last → IsStored columns k ⊎ IsBasic t.lines k)
    → IsFirstSlot columns (pack (stored last columns) t.top) (length columns) s → entering last t ≡ Some (get_or columns s 0)
enters_some m last begin t columns s h z below cover f =
    let n : length (take last t.top) ≡ last = length-take-le last t.top (omega (arith, z.top)) in
    sym (found_at is_above (take last t.top) (get_or columns s 0) nought (omega (arith, below s f.within))
    (λ j b. ap is_above (get_or-take last t.top j nought (omega (arith, below s f.within))) ∙ low j (omega (arith, below s f.within)) b)
    (ap is_above (get_or-take last t.top (get_or columns s 0) nought (below s f.within) ∙ sym (top_slot last columns t s f.within)) ∙ f.above))
  where
    by_value : (j : ℕ) (x : IsStored columns j) (b : Bool) → is_above (at t.top j) ≡ b → j < get_or columns s 0 → is_above (at t.top j) ≡ false
    by_value j x false e l = e
    by_value j x true e l = absurd (omega (
      arith,
      x.is,
      f.first x.slot x.within (ap is_above (top_slot last columns t x.slot x.within
          ∙ ap (λ c. at t.top c) x.is) ∙ e),
    ))

    low : (j : ℕ) → j < last → j < get_or columns s 0 → is_above (at t.top j) ≡ false
    low j l b = ⊎_elim
        (λ (x : IsStored columns j). by_value j x (is_above (at t.top j)) refl b)
        (λ (x : IsBasic t.lines j). basic_low m last begin t j h x)
        (cover j l)

-- how the tableau goes on is how the table does
pub next_packed : (m last : ℕ) (begin t : Tableau) (columns : List ℕ) → IsReached m last begin t → IsSized (last + 1) t
    → ((i : ℕ) → i < length columns → get_or columns i 0 < last) → ((k : ℕ) → k < last → IsStored columns k ⊎ IsBasic t.lines k)
    → named columns (slot_next columns (packed (stored last columns) t)) ≡ next last t
next_packed m last begin t columns h z below cover = by_slot (entering_slot columns (pack (stored last columns) t.top) (length columns))
    (entering_is columns (pack (stored last columns) t.top) (length columns))
  where
    by_line : (s : ℕ) (o : Option ℕ) → named columns (next_from s o) ≡ next_from (get_or columns s 0) o
    by_line s None = refl
    by_line s (Some r) = refl

    by_slot : (o : Option ℕ) → EnteringIs columns (pack (stored last columns) t.top) (length columns) o
        → named columns (slot_next_of (length columns) (packed (stored last columns) t) o) ≡ next last t
    by_slot None f = ap (λ o. next_of last t o) (sym (enters_none m last begin t columns h z cover f))
    by_slot (Some s) f =
        by_line s (leaving (length columns) s (map (pack_line (stored last columns)) t.lines)
        (length (map (pack_line (stored last columns)) t.lines)))
        ∙ ap (λ n. next_from (get_or columns s 0) (leaving (length columns) s (map (pack_line (stored last columns)) t.lines) n))
        (length-map t.lines (pack_line (stored last columns)))
        ∙ ap (λ o. next_from (get_or columns s 0) o) (leaving_slot last columns t.lines s (length t.lines) f.within)
        ∙ ap (λ o. next_of last t o) (sym (enters_some m last begin t columns s h z below cover f))

-- the entering slot, where one enters
pub enters_packed : (m last : ℕ) (begin t : Tableau) (columns : List ℕ) (s : ℕ) → IsReached m last begin t → IsSized (last + 1) t
    → ((i : ℕ) → i < length columns → get_or columns i 0 < last) → ((k : ℕ) → k < last → IsStored columns k ⊎ IsBasic t.lines k)
    → entering_slot columns (pack (stored last columns) t.top) (length columns) ≡ Some s → entering last t ≡ Some (get_or columns s 0)
enters_packed m last begin t columns s h z below cover e =
    enters_some m last begin t columns s h z below cover
    (subst (λ o. EnteringIs columns (pack (stored last columns) t.top) (length columns) o) e
    (entering_is columns (pack (stored last columns) t.top) (length columns)))

-- a turn on a slot
pub record IsSlotTurn (columns : List ℕ) (t : Tableau) (s r : ℕ) : Type 0 where
  pub slot : s < length columns
  pub line : r < length t.lines

pub slot_turn : (columns : List ℕ) (t : Tableau) (s r : ℕ) → slot_next columns t ≡ Turn s r → IsSlotTurn columns t s r
slot_turn columns t s r h = by_slot (entering_slot columns t.top (length columns)) (entering_is columns t.top (length columns)) h
  where
    by_line : (d : ℕ) (o : Option ℕ) → d < length columns → LeavingIs (length columns) d t.lines (length t.lines) o → next_from d o ≡ Turn s r
        → IsSlotTurn columns t s r
    by_line d None l g k = cc
    by_line d (Some q) l g k = let de : d ≡ s = cc in let qr : q ≡ r = cc in record { slot = omega arith; line = omega (arith, g.within) }

    by_slot : (o : Option ℕ) → EnteringIs columns t.top (length columns) o → slot_next_of (length columns) t o ≡ Turn s r → IsSlotTurn columns t s r
    by_slot None f k = cc
    by_slot (Some d) f k = by_line d (leaving (length columns) d t.lines (length t.lines)) f.within
        (leaving_is (length columns) d t.lines (length t.lines)) k

-- a ray's slot
pub slot_ray : (columns : List ℕ) (t : Tableau) (s : ℕ) → slot_next columns t ≡ Ray s → s < length columns
slot_ray columns t s h = by_slot (entering_slot columns t.top (length columns)) (entering_is columns t.top (length columns)) h
  where
    by_line : (d : ℕ) (o : Option ℕ) → d < length columns → next_from d o ≡ Ray s → s < length columns
    by_line d None l k = let de : d ≡ s = cc in omega arith
    by_line d (Some q) l k = cc

    by_slot : (o : Option ℕ) → EnteringIs columns t.top (length columns) o → slot_next_of (length columns) t o ≡ Ray s → s < length columns
    by_slot None f k = cc
    by_slot (Some d) f k = by_line d (leaving (length columns) d t.lines (length t.lines)) f.within k

-- what is known of an entering slot
pub first_slot : (columns : List ℕ) (top : List Fraction) (n s : ℕ) → entering_slot columns top n ≡ Some s → IsFirstSlot columns top n s
first_slot columns top n s h = subst (λ o. EnteringIs columns top n o) h (entering_is columns top n)
