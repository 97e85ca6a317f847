-- A pivot on a table without its basic columns.
use Rattle.std.proofs.Common.{◌≡◌, ℕ, ◌<◌, List, [], ◌∷◌, map, set, length, get_or, refl, sym, ap, subst, ◌∙◌, arith}
use Rattle.std.proofs.lemmas.List.{map-set, length-map, length-set, get_or-set_same, get_or-set_other}
use Rattle.np_frac.specs.Fractions.{Fraction, minus, times}
use Rattle.np_frac.specs.Checked.{reciprocal}
use Rattle.np_simplex.specs.Tableau.{nought, at, Line, blank, line_at, Tableau, divided, less, leaver, cleared, pivot}
use Rattle.np_simplex.specs.Packed.{pack, pack_line, packed, slot_leaver, slot_less, slot_cleared, slot_pivot}
use Rattle.np_simplex.specs.Views.{line}
use Rattle.np_simplex.specs.Widths.{IsWideLess, IsWideOther}
use Rattle.np_simplex.specs.declared.pivot.Row.{Row}
use Rattle.np_simplex.proofs.Sums.{at-less, at-divided}
use Rattle.np_simplex.proofs.Amounts.{one}
use Rattle.np_simplex.proofs.Partly.{set_twice, set_agree}
use Rattle.np_simplex.proofs.Pivots.{IsReached, single_same, single_other}
use Rattle.np_simplex.proofs.Shapes.{line_read}
use Rattle.np_simplex.proofs.Slots.{at_slot, line_slot}

-- ---- what the code's pivot leaves

-- a tableau of two parts
abbrev pub of_parts : List Fraction → List Line → Tableau
of_parts top lines = record { top = top; lines = lines }

-- the leaving line is divided, the others are cleared by it, and its basic column is exchanged
pub pivot_done : {N : Type 0} (value : N → Fraction) (top newtop p : List N) (rows newrows : List (Row N)) (e s r : ℕ) (old row z w : Row N)
    → r < length rows → length newrows ≡ length rows
    → old ≡ get_or rows r old → map value row.numbers.items ≡ slot_leaver s (map value old.numbers.items) → map value p ≡ map value row.numbers.items
    → map value newtop ≡ slot_less s (map value p) (map value top)
    → map (line value) newrows ≡ set (map (slot_cleared s (map value p)) (map (line value) (set rows r row))) r
    (line_at (map (line value) (set rows r row)) r)
    → w ≡ get_or newrows r w → z.basic ≡ e → z.numbers ≡ w.numbers
    → of_parts (map value newtop) (map (line value) (set newrows r z)) ≡ slot_pivot (of_parts (map value top) (map (line value) rows)) e s r
pivot_done value top newtop p rows newrows e s r old row z w l k ho hv hp ht hr hw hb hn =
    ap (λ x. of_parts x (map (line value) (set newrows r z))) (ht ∙ ap (λ x. slot_less s x (map value top)) leaves)
    ∙ ap (λ x. of_parts (slot_less s (slot_leaver s old_numbers) (map value top)) x) lines
  where
    L : List Line
    L = map (line value) rows

    old_numbers : List Fraction
    old_numbers = (line_at L r).numbers

    with_basic : ℕ → List Fraction → Line
    with_basic b xs = record { basic = b; numbers = xs }

    leaves : map value p ≡ slot_leaver s old_numbers
    leaves = hp ∙ hv ∙ ap (λ x. slot_leaver s x.numbers) (sym (line_read value rows r old l ho))

    divided_line : line_at (map (line value) (set rows r row)) r ≡ line value row
    divided_line = ap (λ x. line_at x r) (map-set (line value) rows r row)
        ∙ get_or-set_same L r (line value row) blank (omega (arith, length-map rows (line value)))

    last_numbers : map value z.numbers.items ≡ slot_leaver s old_numbers
    last_numbers = ap (λ x. map value x.items) hn ∙ ap (λ x. x.numbers) (sym (line_read value newrows r w (omega arith) hw))
        ∙ ap (λ x. (line_at x r).numbers) hr
        ∙ ap (λ x. x.numbers) (get_or-set_same (map (slot_cleared s (map value p)) (map (line value) (set rows r row))) r
        (line_at (map (line value) (set rows r row)) r) blank
        (omega (
          arith,
          length-map (map (line value) (set rows r row)) (slot_cleared s (map value p)),
          length-map (set rows r row)
              (line value),
          length-set rows r row,
        )))
        ∙ ap (λ x. x.numbers) divided_line ∙ sym hp ∙ leaves

    lines : map (line value) (set newrows r z) ≡ set (map (slot_cleared s (slot_leaver s old_numbers)) L) r
        (record { basic = e; numbers = slot_leaver s old_numbers })
    lines = map-set (line value) newrows r z
        ∙ ap (λ x. set x r (line value z)) (hr ∙ ap
        (λ x. set (map (slot_cleared s (map value p)) x) r (line_at (map (line value) (set rows r row)) r)) (map-set (line value) rows r row))
        ∙ set_twice (map (slot_cleared s (map value p)) (set L r (line value row))) r (line_at (map (line value) (set rows r row)) r) (line value z)
        ∙ ap (λ x. set x r (line value z)) (map-set (slot_cleared s (map value p)) L r (line value row))
        ∙ set_twice (map (slot_cleared s (map value p)) L) r (slot_cleared s (map value p) (line value row)) (line value z)
        ∙ ap (λ x. set (map (slot_cleared s x) L) r (line value z)) leaves
        ∙ ap (λ x. set (map (slot_cleared s (slot_leaver s old_numbers)) L) r x) (ap (λ b. with_basic b (map value z.numbers.items)) hb
        ∙ ap (λ x. with_basic e x) last_numbers)

-- the basic column that is exchanged
pub pivot_basic : {N : Type 0} (value : N → Fraction) (p : List N) (rows newrows : List (Row N)) (s r : ℕ) (old row w : Row N) → r < length rows
    → length newrows ≡ length rows
    → old ≡ get_or rows r old → row.basic ≡ old.basic
    → map (line value) newrows ≡ set (map (slot_cleared s (map value p)) (map (line value) (set rows r row))) r
    (line_at (map (line value) (set rows r row)) r)
    → w ≡ get_or newrows r w → w.basic ≡ (line_at (map (line value) rows) r).basic
pivot_basic value p rows newrows s r old row w l k ho hb hr hw =
    ap (λ x. x.basic) (sym (line_read value newrows r w (omega arith) hw)) ∙ ap (λ x. (line_at x r).basic) hr
    ∙ ap (λ x. x.basic) (get_or-set_same (map (slot_cleared s (map value p)) (map (line value) (set rows r row))) r
    (line_at (map (line value) (set rows r row)) r) blank
    (omega (
      arith,
      length-map (map (line value) (set rows r row)) (slot_cleared s (map value p)),
      length-map (set rows r row)
          (line value),
      length-set rows r row,
    )))
    ∙ ap (λ x. (line_at x r).basic) (map-set (line value) rows r row)
    ∙ ap (λ x. x.basic) (get_or-set_same (map (line value) rows) r (line value row) blank (omega (arith, length-map rows (line value))))
    ∙ hb ∙ ap (λ x. x.basic) (sym (line_read value rows r old l ho))

-- a line that doesn't leave is as it was
pub wide_other : {N : Type 0} (value : N → Fraction) (rows : List (Row N)) (s r : ℕ) (row : Row N) (p q : List Fraction) → p ≡ q
    → IsWideOther (map (line value) (set rows r row)) s r p → IsWideOther (map (line value) rows) s r q
wide_other value rows s r row p q e h = record {
  place = h.place;
  within = omega (arith, h.within, length-map rows (line value), length-map (set rows r row) (line value), length-set rows r row);
  other = h.other;
  wide = subst (λ x. IsWideLess (set x.numbers s nought) (at x.numbers s) q)
      (ap (λ x. line_at x h.place) (map-set (line value) rows r row)
      ∙ get_or-set_other (map (line value) rows) r h.place (line value row) blank h.other)
      (subst (λ y. IsWideLess (set (line_at (map (line value) (set rows r row)) h.place).numbers s nought)
      (at (line_at (map (line value) (set rows r row)) h.place).numbers s) y) e h.wide);
}

-- ---- the pivot on a slot is the pivot of the stored columns

-- a difference, column by column
pub pack_less : (columns : List ℕ) (xs : List Fraction) (k : Fraction) (ys : List Fraction)
    → pack columns (less xs k ys) ≡ less (pack columns xs) k (pack columns ys)
pack_less [] xs k ys = refl
pack_less (c ∷ columns) xs k ys = ap (λ x. x ∷ pack columns (less xs k ys)) (at-less xs k ys c)
    ∙ ap (λ rest. minus (at xs c) (times k (at ys c)) ∷ rest) (pack_less columns xs k ys)

-- a divided line, column by column
pub pack_divided : (columns : List ℕ) (xs : List Fraction) (a : Fraction) → pack columns (divided xs a) ≡ divided (pack columns xs) a
pack_divided [] xs a = refl
pack_divided (c ∷ columns) xs a = ap (λ x. x ∷ pack columns (divided xs a)) (at-divided xs a c)
    ∙ ap (λ rest. times (at xs c) (reciprocal a) ∷ rest) (pack_divided columns xs a)

-- the numbers of the columns after the exchange
pub pack_exchanged : (columns : List ℕ) (xs : List Fraction) (s b : ℕ) (x : Fraction) → at xs b ≡ x
    → pack (set columns s b) xs ≡ set (pack columns xs) s x
pack_exchanged columns xs s b x e = map-set (λ c. at xs c) columns s b ∙ ap (λ y. set (pack columns xs) s y) e

-- the leaving line
pub pack_leaver : (columns : List ℕ) (xs : List Fraction) (s b : ℕ) → s < length columns → at xs b ≡ one
    → pack (set columns s b) (divided xs (at xs (get_or columns s 0))) ≡ slot_leaver s (pack columns xs)
pack_leaver columns xs s b l e =
    pack_divided (set columns s b) xs (at xs (get_or columns s 0))
    ∙ ap (λ ys. divided ys (at xs (get_or columns s 0))) (pack_exchanged columns xs s b one e)
    ∙ ap (λ a. divided (set (pack columns xs) s one) a) (sym (at_slot columns xs s l))

-- another line
pub pack_other : (columns : List ℕ) (xs p : List Fraction) (s b : ℕ) → s < length columns → at xs b ≡ nought
    → pack (set columns s b) (less xs (at xs (get_or columns s 0)) p) ≡ slot_less s (pack (set columns s b) p) (pack columns xs)
pack_other columns xs p s b l e =
    pack_less (set columns s b) xs (at xs (get_or columns s 0)) p
    ∙ ap (λ ys. less ys (at xs (get_or columns s 0)) (pack (set columns s b) p)) (pack_exchanged columns xs s b nought e)
    ∙ ap (λ a. less (set (pack columns xs) s nought) a (pack (set columns s b) p)) (sym (at_slot columns xs s l))

-- the whole tableau
pub packed_pivot : (m last : ℕ) (begin t : Tableau) (columns : List ℕ) (s r : ℕ) → IsReached m last begin t → s < length columns → r < length t.lines
    → packed (set columns s (line_at t.lines r).basic) (pivot t (get_or columns s 0) r) ≡ slot_pivot (packed columns t) (get_or columns s 0) s r
packed_pivot m last begin t columns s r h l k =
    ap (λ x. of_parts x (map (pack_line new) (set (map (cleared e p) t.lines) r (record { basic = e; numbers = p }))))
    (pack_other columns t.top p s b l (h.top_units r k) ∙ ap (λ x. slot_less s x (pack columns t.top)) leaves)
    ∙ ap (λ x. of_parts (slot_less s q (pack columns t.top)) x) lines
  where
    b : ℕ
    b = (line_at t.lines r).basic

    e : ℕ
    e = get_or columns s 0

    new : List ℕ
    new = set columns s b

    p : List Fraction
    p = leaver t e r

    q : List Fraction
    q = slot_leaver s (line_at (map (pack_line columns) t.lines) r).numbers

    leaves : pack new p ≡ q
    leaves = pack_leaver columns (line_at t.lines r).numbers s b l (h.units r k r k ∙ single_same r one)
        ∙ ap (λ x. slot_leaver s x.numbers) (sym (line_slot columns t.lines r k))

    with_basic : ℕ → List Fraction → Line
    with_basic i xs = record { basic = i; numbers = xs }

    lines : map (pack_line new) (set (map (cleared e p) t.lines) r (record { basic = e; numbers = p })) ≡ set
        (map (slot_cleared s q) (map (pack_line columns) t.lines)) r (record { basic = e; numbers = q })
    lines = map-set (pack_line new) (map (cleared e p) t.lines) r (record { basic = e; numbers = p })
        ∙ ap (λ x. set (map (pack_line new) (map (cleared e p) t.lines)) r (with_basic e x)) leaves
        ∙ ap (λ x. set x r (with_basic e q)) (map_map (cleared e p) (pack_line new) t.lines)
        ∙ set_agree (λ x. pack_line new (cleared e p x)) (λ x. slot_cleared s q (pack_line columns x)) t.lines r (with_basic e q) blank
        (λ i a d. ap (λ x. with_basic (line_at t.lines i).basic x) (pack_other columns (line_at t.lines i).numbers p s b l (h.units i a r k
        ∙ single_other i one r d) ∙ ap (λ x. slot_less s x (pack columns (line_at t.lines i).numbers)) leaves))
        ∙ ap (λ x. set x r (with_basic e q)) (sym (map_map (pack_line columns) (slot_cleared s q) t.lines))
      where
        map_map : (f g : Line → Line) (xs : List Line) → map g (map f xs) ≡ map (λ x. g (f x)) xs
        map_map f g [] = refl
        map_map f g (x ∷ xs) = ap (λ ys. g (f x) ∷ ys) (map_map f g xs)
