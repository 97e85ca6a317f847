-- What is read off a table is what is read off the tableau that it holds.
use Rattle.std.proofs.Common.{◌≡◌, ℕ, ◌+◌, ◌-◌, ◌<◌, ◌≤◌, true, false, ℤ, pos, List, [], ◌∷◌, ◌++◌, Option, Some, None, map, length, get_or, refl}
use Rattle.std.proofs.Common.{sym, ap, subst, ◌∙◌, arith, ◌⊎◌, inl, inr, ⊎_elim}
use Rattle.std.specs.Prelude.{◌==◌, if◌then◌else◌}
use Rattle.std.specs.List.{position, range_with_len}
use Rattle.std.proofs.lemmas.List.{length-map, map-append, get_or-map, get_or_default, get_or_append_left, same_lists}
use Rattle.std.proofs.lemmas.List.FromFn.{get_or-map-range_with_len, length-map-range_with_len}
use Rattle.std.proofs.lemmas.List.Quantifiers.{position-Some}
use Rattle.std.proofs.lemmas.Bool.{cases_lt}
use Rattle.std.proofs.lemmas.Bool.Decides.{nat_tests}
use Rattle.np_frac.specs.Fractions.{Fraction, whole, minus}
use Rattle.np_simplex.specs.Tableau.{nought, at, Line, Tableau, column, unit, line_of, start, basic_amount, best_weights, best_counts, ray_weights}
use Rattle.np_simplex.specs.Packed.{stored, pack, pack_line, packed, IsStored, IsBasic, IsPacked, stored_number, number_in, slot_counts}
use Rattle.np_simplex.specs.Packed.{slot_ray_weights, slot_line_of, slot_start, named_end}
use Rattle.np_simplex.specs.Promises.{IsRead, IsSlotRead, IsWithin}
use Rattle.np_simplex.specs.Views.{tableau}
use Rattle.np_simplex.specs.declared.choice.End.{End}
use Rattle.np_simplex.specs.declared.choice.End.TheVariants as ends
use Rattle.np_simplex.specs.declared.program.LpAnswer.{LpAnswer}
use Rattle.np_simplex.specs.declared.program.LpAnswer.TheVariants.{Best, Ray}
use Rattle.np_simplex.specs.declared.pivot.Table.{Table}
use Rattle.np_simplex.proofs.Answers.{start_sized}
use Rattle.np_simplex.proofs.Basics.{none_passes}
use Rattle.np_simplex.proofs.Begin.{start_line, start_lines, length-column, at_cost, at_top}
use Rattle.np_simplex.proofs.Pivots.{IsReached}
use Rattle.np_simplex.proofs.Slots.{at_slot, top_slot, stored_slot, stored_last, length_stored}

-- functions that agree on each item
map_same : {X Y : Type 0} (f g : X → Y) (xs : List X) → ((x : X) → f x ≡ g x) → map f xs ≡ map g xs
map_same f g [] h = refl
map_same f g (x ∷ xs) h = ap (λ y. y ∷ map f xs) (h x) ∙ ap (λ ys. g x ∷ ys) (map_same f g xs h)

map_twice : {X Y Z : Type 0} (f : X → Y) (g : Y → Z) (xs : List X) → map g (map f xs) ≡ map (λ x. g (f x)) xs
map_twice f g [] = refl
map_twice f g (x ∷ xs) = ap (λ ys. g (f x) ∷ ys) (map_twice f g xs)

-- functions that agree below a number
range_same : (f g : ℕ → Fraction) (n : ℕ) → ((k : ℕ) → k < n → f k ≡ g k) → map f (range_with_len 0 n) ≡ map g (range_with_len 0 n)
range_same f g n h = same_lists (map f (range_with_len 0 n)) (map g (range_with_len 0 n)) (length-map-range_with_len f 0 n
    ∙ sym (length-map-range_with_len g 0 n))
    (λ j d b. let l : j < n = omega (arith, length-map-range_with_len f 0 n) in
    get_or-map-range_with_len f 0 n j j d l (omega arith) ∙ h j l ∙ sym (get_or-map-range_with_len g 0 n j j d l (omega arith)))

-- ---- the start

-- the first items and one more
pack_first : (xs ys : List Fraction) (m last : ℕ) → length xs ≡ m → pack (stored last (range_with_len 0 m)) (xs ++ ys) ≡ xs ++ at (xs ++ ys) last ∷ []
pack_first xs ys m last e =
    map-append (λ c. at (xs ++ ys) c) (range_with_len 0 m) (last ∷ [])
    ∙ ap (λ zs. zs ++ at (xs ++ ys) last ∷ [])
    (same_lists (map (λ c. at (xs ++ ys) c) (range_with_len 0 m)) xs (length-map-range_with_len (λ c. at (xs ++ ys) c) 0 m ∙ sym e)
    (λ j d b. let l : j < m = omega (arith, length-map-range_with_len (λ c. at (xs ++ ys) c) 0 m) in
    get_or-map-range_with_len (λ c. at (xs ++ ys) c) 0 m j j d l (omega arith) ∙ get_or_append_left xs ys nought j (omega arith)
    ∙ get_or_default xs j nought d (omega arith)))

-- a step's line
pack_step : (rows : List (List ℤ)) (costs : List ℕ) (j : ℕ)
    → pack_line (stored (length rows + length costs) (range_with_len 0 (length rows))) (line_of rows costs j) ≡ slot_line_of rows costs j
pack_step rows costs j = ap (λ xs. with_numbers xs)
    (pack_first (column rows j) (unit (length costs) j ++ whole (pos (get_or costs j 0)) ∷ []) (length rows) (length rows + length costs)
    (length-column rows j)
    ∙ ap (λ x. column rows j ++ x ∷ []) (at_cost rows costs j))
  where
    with_numbers : List Fraction → Line
    with_numbers xs = record { basic = length rows + j; numbers = xs }

-- the first tableau without its basic columns
packed_start : (rows : List (List ℤ)) (right : List ℤ) (costs : List ℕ) → length right ≡ length rows
    → packed (stored (length rows + length costs) (range_with_len 0 (length rows))) (start rows right costs) ≡ slot_start rows right costs
packed_start rows right costs e =
    ap (λ x. of_parts x (map (pack_line cs) (start rows right costs).lines))
    (pack_first (map whole right) (map (λ k. nought) (range_with_len 0 (length costs + 1))) (length rows) (length rows + length costs)
    (length-map right whole ∙ e)
    ∙ ap (λ x. map whole right ++ x ∷ []) (at_top rows right costs (length costs) e))
    ∙ ap (λ x. of_parts (map whole right ++ nought ∷ []) x) (map_twice (line_of rows costs) (pack_line cs) (range_with_len 0 (length costs))
    ∙ map_same (λ j. pack_line cs (line_of rows costs j)) (slot_line_of rows costs) (range_with_len 0 (length costs)) (pack_step rows costs))
  where
    cs : List ℕ
    cs = stored (length rows + length costs) (range_with_len 0 (length rows))

    of_parts : List Fraction → List Line → Tableau
    of_parts top lines = record { top = top; lines = lines }

-- a number of a range
at_range : (m k : ℕ) → k < m → get_or (range_with_len 0 m) k 0 ≡ k
at_range m k l = sym (get_or-map (λ x. x) (range_with_len 0 m) k 0 0 (omega (arith, l, long m)))
    ∙ get_or-map-range_with_len (λ x. x) 0 m k k 0 l (omega arith)
  where
    long : (m : ℕ) → length (range_with_len 0 m) ≡ m
    long m = sym (length-map (range_with_len 0 m) (λ x. x)) ∙ length-map-range_with_len (λ x. x) 0 m

long_range : (m : ℕ) → length (range_with_len 0 m) ≡ m
long_range m = sym (length-map (range_with_len 0 m) (λ x. x)) ∙ length-map-range_with_len (λ x. x) 0 m

-- the first table holds the first tableau
pub start_packed : {N : Type 0} (value : N → Fraction) (rows : List (List ℤ)) (right : List ℤ) (costs : List ℕ) (table : Table N)
    → length right ≡ length rows
    → tableau value table ≡ slot_start rows right costs → table.columns.items ≡ range_with_len 0 (length rows)
    → IsPacked value (length rows + length costs) table (start rows right costs)
start_packed value rows right costs table e et ec = record {
  is = et ∙ sym (packed_start rows right costs e) ∙ ap (λ cs. packed (stored (length rows + length costs) cs) (start rows right costs)) (sym ec);
  sized = start_sized rows right costs (length rows + length costs + 1) e refl;
  below = λ s l. subst (λ cs. get_or cs s 0 < length rows + length costs) (sym ec)
      (let k : s < length rows = omega (arith, l, ap length ec, long_range (length rows)) in omega (arith, at_range (length rows) s k));
  covers = λ k l. ⊎_elim
      (λ b. inl (subst (λ cs. IsStored cs k) (sym ec)
      (record { slot = k; within = omega (arith, b, long_range (length rows)); is = at_range (length rows) k b })))
      (λ b. let g : length rows ≤ k = omega arith in basic k l g)
      (cases_lt k (length rows));
}
  where
    basic : (k : ℕ) → k < length rows + length costs → length rows ≤ k → IsStored table.columns.items k ⊎ IsBasic (start rows right costs).lines k
    basic k l g = inr (record {
      place = k - length rows;
      within = omega (arith, start_lines rows right costs);
      is = ap (λ x. x.basic)
          (start_line rows right costs (k - length rows) (omega arith)) ∙ (let z : length rows + (k - length rows) ≡ k = omega arith in z);
    })

-- ---- weights

-- amounts that agree on each packed line
basic_same : (amount other : Line → Fraction) (f : Line → Line) (lines : List Line) (k : ℕ) → ((x : Line) → (f x).basic ≡ x.basic)
    → ((x : Line) → amount (f x) ≡ other x) → basic_amount amount (map f lines) k ≡ basic_amount other lines k
basic_same amount other f [] k b h = refl
basic_same amount other f (x ∷ xs) k b h =
    ap (λ i. if i == k then amount (f x) else basic_amount amount (map f xs) k) (b x)
    ∙ ap (λ y. if x.basic == k then y else basic_amount amount (map f xs) k) (h x)
    ∙ ap (λ y. if x.basic == k then other x else y) (basic_same amount other f xs k b h)

weights_packed : (last : ℕ) (columns : List ℕ) (m : ℕ) (t : Tableau)
    → best_weights m (length columns) (packed (stored last columns) t) ≡ best_weights m last t
weights_packed last columns m t = map_same _ _ (range_with_len 0 m)
    (λ k. basic_same (λ x. at x.numbers (length columns)) (λ x. at x.numbers last) (pack_line (stored last columns)) t.lines k (λ x. refl)
    (λ x. at_slot (stored last columns) x.numbers (length columns) (omega (arith, length_stored last columns))
    ∙ ap (λ c. at x.numbers c) (stored_last last columns)))

ray_packed : (last : ℕ) (columns : List ℕ) (m s : ℕ) (t : Tableau) → s < length columns
    → slot_ray_weights m (get_or columns s 0) s (packed (stored last columns) t) ≡ ray_weights m (get_or columns s 0) t
ray_packed last columns m s t l = map_same _ _ (range_with_len 0 m) (λ k. ap (λ y. if k == get_or columns s 0 then whole (pos 1) else y)
    (basic_same (λ x. minus nought (at x.numbers s)) (λ x. minus nought (at x.numbers (get_or columns s 0)))
    (pack_line (stored last columns)) t.lines k (λ x. refl)
    (λ x. ap (λ a. minus nought a) (at_slot (stored last columns) x.numbers s (omega (arith, length_stored last columns))
    ∙ ap (λ c. at x.numbers c) (stored_slot last columns s l)))))

-- ---- counts

-- the number in a column before the last one
number_stored : (m last : ℕ) (begin t : Tableau) (columns : List ℕ) (k : ℕ) → IsReached m last begin t → IsStored columns k ⊎ IsBasic t.lines k
    → stored_number columns (pack (stored last columns) t.top) k ≡ at t.top k
number_stored m last begin t columns k h cover = by_place (position (λ c. c == k) columns) refl
  where
    by_place : (o : Option ℕ) → position (λ c. c == k) columns ≡ o → number_in (pack (stored last columns) t.top) o ≡ at t.top k
    by_place (Some s) e =
        let p : (s < length columns) × ((get_or columns s 0 == k) ≡ true) × ((j : ℕ) → j < s
        → (get_or columns j 0 == k) ≡ false) = position-Some (λ c. c == k) columns s 0 e in
        let same : get_or columns s 0 ≡ k = grind (p.1, arith, nat_tests) in
        top_slot last columns t s p.0 ∙ ap (λ c. at t.top c) same
    by_place None e = ⊎_elim
        (λ (x : IsStored columns k). absurd (let f : (get_or columns x.slot 0 == k) ≡ false = none_passes
        (λ c. c == k) columns x.slot 0 e x.within in let g : get_or columns x.slot 0 ≡ k = x.is in grind (arith, nat_tests)))
        (λ (x : IsBasic t.lines k). sym (ap (λ c. at t.top c) (sym x.is) ∙ h.top_units x.place x.within))
        cover

counts_packed : (rows last : ℕ) (begin t : Tableau) (columns : List ℕ) (m n : ℕ) → IsReached rows last begin t
    → ((k : ℕ) → k < last → IsStored columns k ⊎ IsBasic t.lines k) → m + n ≡ last
    → slot_counts m n columns (packed (stored last columns) t) ≡ best_counts m n t
counts_packed rows last begin t columns m n h cover e =
    range_same _ _ n (λ j l. ap (λ x. minus nought x) (number_stored rows last begin t columns (m + j) h (cover (m + j) (omega arith))))

-- ---- the answer

pub read_packed : {N : Type 0} (value : N
    → Fraction) (rows last : ℕ) (begin t : Tableau) (table : Table N) (m n : ℕ) (end : End) (answer : LpAnswer N) → IsReached rows last begin t
    → IsPacked value last table t → m + n ≡ last → IsWithin (length table.columns.items) end
    → IsSlotRead value m n table.columns.items (tableau value table) end answer → IsRead value m n t (named_end table.columns.items end) answer
read_packed value rows last begin t table m n end answer h p e within r = by_end end answer within
    (subst (λ x. IsSlotRead value m n columns x end answer) p.is r)
  where
    columns : List ℕ
    columns = table.columns.items

    by_end : (end : End) (answer : LpAnswer _) → IsWithin (length columns) end
        → IsSlotRead value m n columns (packed (stored last columns) t) end answer → IsRead value m n t (named_end columns end) answer
    by_end ends.Best (Best weights counts) w q =
        (q.0 ∙ weights_packed last columns m t ∙ ap (λ i. best_weights m i t) (sym e), q.1 ∙ counts_packed rows last begin t columns m n h p.covers e)
    by_end ends.Best (Ray weights) w q = absurd q
    by_end (ends.Ray s) (Best weights counts) w q = absurd q
    by_end (ends.Ray s) (Ray weights) w q = q ∙ ray_packed last columns m s t w
