-- What a table without its basic columns keeps through a run.
use Rattle.std.proofs.Common.{◌≡◌, ℕ, ◌+◌, ◌<◌, ◌≤◌, List, [], ◌∷◌, map, set, length, get_or, sym, ap, subst, ◌∙◌, arith, ◌⊎◌, inl, inr, ⊎_elim}
use Rattle.std.proofs.lemmas.List.{length-map, length-set, get_or-map, get_or-set_same, get_or-set_other, set-append_left}
use Rattle.std.proofs.lemmas.Bool.{cases_eq}
use Rattle.np_frac.specs.Fractions.{Fraction, times}
use Rattle.np_frac.specs.Checked.{reciprocal}
use Rattle.np_frac.specs.Sizes.{are_wide, are_wide_or_zero}
use Rattle.np_simplex.specs.Tableau.{nought, at, is_above, Line, blank, line_at, Tableau, less, leaver, pivot, next, IsSized}
use Rattle.np_simplex.specs.Packed.{stored, pack, pack_line, packed, IsStored, IsBasic, IsPacked, slot_leaver, slot_pivot}
use Rattle.np_simplex.specs.Views.{tableau}
use Rattle.np_simplex.specs.Widths.{is_wide_multiple, IsWideLess, IsWideDivided, IsWidePivot, in_leaver, in_top, in_line, IsWideTurn, in_quotient}
use Rattle.np_simplex.specs.Widths.{in_pivot, IsWideSlotLess, IsWideSlot, in_slot_leaver, in_slot_top, in_slot_line, IsWideSlotTurn, HasWide}
use Rattle.np_simplex.specs.Widths.{in_wide_top, in_wide_line}
use Rattle.np_simplex.specs.declared.choice.Course.TheVariants.{Turn}
use Rattle.np_simplex.specs.declared.pivot.Table.{Table}
use Rattle.np_simplex.proofs.Amounts.{one}
use Rattle.np_simplex.proofs.Pivots.{IsReached, single_same, single_other}
use Rattle.np_simplex.proofs.Slots.{at_pack, at_slot, at_line, basic_line, line_slot, stored_slot, stored_last, length_stored, enters_packed}
use Rattle.np_simplex.proofs.Slots.{first_slot}
use Rattle.np_simplex.proofs.Packed.{pack_exchanged, pack_leaver, packed_pivot}
use Rattle.np_simplex.proofs.Turns.{pivot_sized}

-- the packed tableau has a number per stored column and the last one
pub sized_stored : (last : ℕ) (columns : List ℕ) (t : Tableau) → IsSized (length columns + 1) (packed (stored last columns) t)
sized_stored last columns t = record {
  top = length-map (stored last columns) (λ c. at t.top c) ∙ length_stored last columns;
  shaped = record {
    is = λ k l. ap (λ x. length x.numbers) (line_slot (stored last columns) t.lines k
        (omega (arith, l, length-map t.lines (pack_line (stored last columns)))))
        ∙ length-map (stored last columns) (λ c. at (line_at t.lines k).numbers c) ∙ length_stored last columns;
  };
}

pub sized_packed : {N : Type 0} (value : N → Fraction) (last : ℕ) (table : Table N) (t : Tableau) → IsPacked value last table t
    → IsSized (length table.columns.items + 1) (tableau value table)
sized_packed value last table t h = subst (λ x. IsSized (length table.columns.items + 1) x) (sym h.is) (sized_stored last table.columns.items t)

-- ---- one turn

-- each column before the last one is still stored or basic
covers_turn : (last : ℕ) (columns : List ℕ) (t : Tableau) (s r : ℕ) → s < length columns → r < length t.lines
    → ((k : ℕ) → k < last → IsStored columns k ⊎ IsBasic t.lines k)
    → (k : ℕ) → k < last → IsStored (set columns s (line_at t.lines r).basic) k ⊎ IsBasic (pivot t (get_or columns s 0) r).lines k
covers_turn last columns t s r l n cover k b = ⊎_elim
    (λ (x : IsStored columns k). ⊎_elim
    (λ d. inr (record {
      place = r;
      within = long r n;
      is = ap (λ y. y.basic)
          (get_or-set_same others r new blank (omega (arith, length-map t.lines change))) ∙ ap (λ i. get_or columns i 0) (sym d) ∙ x.is;
    }))
    (λ d. inl (record {
      slot = x.slot;
      within = omega
          (arith, x.within, length-set columns s (line_at t.lines r).basic);
      is = get_or-set_other columns s x.slot (line_at t.lines r).basic 0 d
          ∙ x.is;
    }))
    (cases_eq x.slot s))
    (λ (x : IsBasic t.lines k). ⊎_elim
    (λ d. inl (record {
      slot = s;
      within = omega (arith, l, length-set columns s (line_at t.lines r).basic);
      is = get_or-set_same columns s
          (line_at t.lines r).basic 0 l ∙ ap (λ i. (line_at t.lines i).basic) (sym d) ∙ x.is;
    }))
    (λ d. inr (record {
      place = x.place;
      within = long x.place x.within;
      is = ap (λ y. y.basic) (get_or-set_other others r x.place new blank d ∙ get_or-map change t.lines x.place blank blank x.within) ∙ x.is;
    }))
    (cases_eq x.place r))
    (cover k b)
  where
    e : ℕ
    e = get_or columns s 0

    change : Line → Line
    change = λ x. record { basic = x.basic; numbers = less x.numbers (at x.numbers e) (leaver t e r) }

    others : List Line
    others = map change t.lines

    new : Line
    new = record { basic = e; numbers = leaver t e r }

    long : (i : ℕ) → i < length t.lines → i < length (set others r new)
    long i a = omega (arith, length-set others r new, length-map t.lines change)

-- the table after a pivot holds the tableau after it
pub packed_turn : {N : Type 0} (value : N → Fraction) (m last : ℕ) (begin t : Tableau) (table new : Table N) (s r : ℕ) → IsReached m last begin t
    → IsPacked value last table t → s < length table.columns.items → r < length t.lines
    → tableau value new ≡ slot_pivot (tableau value table) (get_or table.columns.items s 0) s r
    → new.columns.items ≡ set table.columns.items s (line_at (tableau value table).lines r).basic
    → IsPacked value last new (pivot t (get_or table.columns.items s 0) r)
packed_turn value m last begin t table new s r h p l n et ec = record {
  is = et ∙ ap (λ x. slot_pivot x (get_or columns s 0) s r) p.is
      ∙ ap (λ i. slot_pivot (packed (stored last columns) t) i s r) (sym (stored_slot last columns s l))
      ∙ sym (packed_pivot m last begin t (stored last columns) s r h (omega (arith, length_stored last columns)) n)
      ∙ ap (λ i. packed (set (stored last columns) s b) (pivot t i r)) (stored_slot last columns s l)
      ∙ ap (λ cs. packed cs (pivot t (get_or columns s 0) r)) (set-append_left columns (last ∷ []) s b l ∙ ap (λ cs. stored last cs) (sym slots));
  sized = pivot_sized (last + 1) t (get_or columns s 0) r p.sized n;
  below = λ i k. subst (λ cs. get_or cs i 0 < last) (sym slots) (within i (omega (arith, k, ap length slots, length-set columns s b)));
  covers = λ k i. subst (λ cs. IsStored cs k ⊎ IsBasic (pivot t (get_or columns s 0) r).lines k) (sym slots)
      (covers_turn last columns t s r l n p.covers k i);
}
  where
    columns : List ℕ
    columns = table.columns.items

    b : ℕ
    b = (line_at t.lines r).basic

    slots : new.columns.items ≡ set columns s b
    slots = ec ∙ ap (λ x. set columns s (line_at x.lines r).basic) p.is ∙ ap (λ i. set columns s i) (basic_line (stored last columns) t.lines r)

    within : (i : ℕ) → i < length columns → get_or (set columns s b) i 0 < last
    within i k = ⊎_elim
        (λ d. omega (arith, ap (λ j. get_or (set columns s b) j 0) d, get_or-set_same columns s b 0 l, h.below r n))
        (λ d. omega (arith, get_or-set_other columns s i b 0 d, p.below i k))
        (cases_eq i s)

-- ---- what is wide in the table is wide in the tableau

wide_divided : (columns : List ℕ) (xs : List Fraction) (a : Fraction) (d : ℕ) → length xs ≤ d → IsWideDivided (pack columns xs) a → IsWideDivided xs a
wide_divided columns xs a d l h = record {
  column = get_or columns h.column d;
  wide = ap (λ x. are_wide_or_zero x a)
      (sym (at_pack columns xs h.column d l)) ∙ h.wide;
}

wide_less : (columns : List ℕ) (xs : List Fraction) (k : Fraction) (ys : List Fraction) (d : ℕ) → length xs ≤ d → length ys ≤ d
    → IsWideLess (pack columns xs) k (pack columns ys) → IsWideLess xs k ys
wide_less columns xs k ys d l n h = record {
  column = get_or columns h.column d;
  wide = ap (λ x. is_wide_multiple x k (at ys (get_or columns h.column d))) (sym (at_pack columns xs h.column d l))
      ∙ ap (λ y. is_wide_multiple (at (pack columns xs) h.column) k y) (sym (at_pack columns ys h.column d n)) ∙ h.wide;
}

wide_slot_less : (columns : List ℕ) (s b d : ℕ) (xs p q : List Fraction) → s < length columns → at xs b ≡ nought → length xs ≤ d → length p ≤ d
    → q ≡ pack (set columns s b) p
    → IsWideSlotLess s q (pack columns xs) → IsWideLess xs (at xs (get_or columns s 0)) p
wide_slot_less columns s b d xs p q l e n k eq h =
    wide_less (set columns s b) xs (at xs (get_or columns s 0)) p d n k
    (subst (λ a. IsWideLess (pack (set columns s b) xs) a (pack (set columns s b) p)) (at_slot columns xs s l)
    (subst (λ ys. IsWideLess ys (at (pack columns xs) s) (pack (set columns s b) p)) (sym (pack_exchanged columns xs s b nought e))
    (subst (λ y. IsWideSlotLess s y (pack columns xs)) eq h)))

-- a wide pivot
wide_pivot : (m last : ℕ) (begin t : Tableau) (columns : List ℕ) (s r : ℕ) → IsReached m last begin t → IsSized (last + 1) t → s < length columns
    → r < length t.lines → IsWideSlot (packed columns t) s r → IsWidePivot t (get_or columns s 0) r
wide_pivot m last begin t columns s r h z l n w = by_case w
  where
    e : ℕ
    e = get_or columns s 0

    b : ℕ
    b = (line_at t.lines r).basic

    same : line_at (packed columns t).lines r ≡ pack_line columns (line_at t.lines r)
    same = line_slot columns t.lines r n

    mine : at (line_at t.lines r).numbers b ≡ one
    mine = h.units r n r n ∙ single_same r one

    leaves : slot_leaver s (line_at (packed columns t).lines r).numbers ≡ pack (set columns s b) (leaver t e r)
    leaves = ap (λ x. slot_leaver s x.numbers) same ∙ sym (pack_leaver columns (line_at t.lines r).numbers s b l mine)

    long : length (leaver t e r) ≤ last + 1
    long = omega (arith, length-map (line_at t.lines r).numbers (λ x. times x (reciprocal (at (line_at t.lines r).numbers e))), z.shaped.is r n)

    by_case : IsWideSlot (packed columns t) s r → IsWidePivot t e r
    by_case (in_slot_leaver d) = in_leaver (wide_divided (set columns s b) (line_at t.lines r).numbers (at (line_at t.lines r).numbers e) (last + 1)
        (omega (arith, z.shaped.is r n))
        (subst (λ a. IsWideDivided (pack (set columns s b) (line_at t.lines r).numbers) a) (at_slot columns (line_at t.lines r).numbers s l)
        (subst (λ ys. IsWideDivided ys (at (pack columns (line_at t.lines r).numbers) s))
        (sym (pack_exchanged columns (line_at t.lines r).numbers s b one mine))
        (subst (λ x. IsWideDivided (set x.numbers s one) (at x.numbers s)) same d))))
    by_case (in_slot_top d) = in_top (wide_slot_less columns s b (last + 1) t.top (leaver t e r)
        (slot_leaver s (line_at (packed columns t).lines r).numbers) l (h.top_units r n) (omega (arith, z.top)) long leaves d)
    by_case (in_slot_line d) =
        let k : d.place < length t.lines = omega (arith, d.within, length-map t.lines (pack_line columns)) in
        in_line (record {
          place = d.place;
          within = k;
          wide = wide_slot_less columns s b (last + 1) (line_at t.lines d.place).numbers (leaver t e r)
              (slot_leaver s (line_at (packed columns t).lines r).numbers) l
              (h.units d.place k r n ∙ single_other d.place one r d.other) (omega (arith, z.shaped.is d.place k)) long leaves
              (subst (λ x. IsWideSlotLess s (slot_leaver s (line_at (packed columns t).lines r).numbers) x.numbers)
              (line_slot columns t.lines d.place k) d.wide);
        })

-- a wide turn, in the choice of the leaving line
pub wide_choice : {N : Type 0} (value : N → Fraction) (m last : ℕ) (begin t : Tableau) (table : Table N) → IsReached m last begin t
    → IsPacked value last table t → IsWideSlotTurn table.columns.items (tableau value table) → IsWideTurn last t
wide_choice value m last begin t table h p w = by_slot (subst (λ x. IsWideSlotTurn table.columns.items x) p.is w)
  where
    cs : List ℕ
    cs = stored last table.columns.items

    by_slot : IsWideSlotTurn table.columns.items (packed (stored last table.columns.items) t) → IsWideTurn last t
    by_slot d =
        let l : d.slot < length table.columns.items =
        (first_slot table.columns.items (pack (stored last table.columns.items) t.top) (length table.columns.items) d.slot d.enters).within in
        in_quotient (get_or table.columns.items d.slot 0)
        (enters_packed m last begin t table.columns.items d.slot h p.sized p.below p.covers d.enters) (record {
          place = d.wide.place;
          within = omega (arith, d.wide.within, length-map t.lines (pack_line cs));
          above = ap is_above (sym (enters l d.wide.place)) ∙ d.wide.above;
          wide = ap (λ x. are_wide_or_zero x (at (line_at t.lines d.wide.place).numbers (get_or table.columns.items d.slot 0)))
              (sym (lasts d.wide.place))
              ∙ ap (λ x. are_wide_or_zero (at (line_at (map (pack_line cs) t.lines) d.wide.place).numbers (length table.columns.items)) x)
              (sym (enters l d.wide.place)) ∙ d.wide.wide;
        })
      where
        enters : d.slot < length table.columns.items → (k : ℕ)
            → at (line_at (map (pack_line cs) t.lines) k).numbers d.slot ≡ at (line_at t.lines k).numbers (get_or table.columns.items d.slot 0)
        enters l k = at_line cs t.lines k d.slot (omega (arith, length_stored last table.columns.items))
            ∙ ap (λ c. at (line_at t.lines k).numbers c) (stored_slot last table.columns.items d.slot l)

        lasts : (k : ℕ) → at (line_at (map (pack_line cs) t.lines) k).numbers (length table.columns.items) ≡ at (line_at t.lines k).numbers last
        lasts k = at_line cs t.lines k (length table.columns.items) (omega (arith, length_stored last table.columns.items))
            ∙ ap (λ c. at (line_at t.lines k).numbers c) (stored_last last table.columns.items)

-- and in the pivot
pub wide_turn : {N : Type 0} (value : N → Fraction) (m last : ℕ) (begin t : Tableau) (table : Table N) (s r : ℕ) → IsReached m last begin t
    → IsPacked value last table t → s < length table.columns.items → r < length t.lines
    → next last t ≡ Turn (get_or table.columns.items s 0) r → IsWideSlot (tableau value table) s r → IsWideTurn last t
wide_turn value m last begin t table s r h p l n e w = in_pivot (get_or table.columns.items s 0) r e
    (subst (λ i. IsWidePivot t i r) (stored_slot last table.columns.items s l)
    (wide_pivot m last begin t (stored last table.columns.items) s r h p.sized (omega (arith, length_stored last table.columns.items)) n
    (subst (λ x. IsWideSlot x s r) p.is w)))

-- a number whose negation is wide
pub wide_number : {N : Type 0} (value : N → Fraction) (last : ℕ) (t : Tableau) (table : Table N) → IsPacked value last table t
    → HasWide (tableau value table) → HasWide t
wide_number value last t table p w = by_case (subst (λ x. HasWide x) p.is w)
  where
    cs : List ℕ
    cs = stored last table.columns.items

    by_case : HasWide (packed (stored last table.columns.items) t) → HasWide t
    by_case (in_wide_top d) = in_wide_top (record {
      column = get_or cs d.column (last + 1);
      wide = ap (λ x. are_wide nought x)
          (sym (at_pack cs t.top d.column (last + 1) (omega (arith, p.sized.top)))) ∙ d.wide;
    })
    by_case (in_wide_line d) =
        let k : d.place < length t.lines = omega (arith, d.within, length-map t.lines (pack_line cs)) in
        in_wide_line (record {
          place = d.place;
          column = get_or cs d.column (last + 1);
          within = k;
          wide = ap (λ x. are_wide nought x) (sym (ap (λ x. at x.numbers d.column) (line_slot cs t.lines d.place k)
              ∙ at_pack cs (line_at t.lines d.place).numbers d.column (last + 1) (omega (arith, p.sized.shaped.is d.place k)))) ∙ d.wide;
        })
