-- The run of a linear program, and the table that holds it.
use Rattle.std.proofs.Common.{◌≡◌, ℕ, ◌+◌, ◌<◌, ◌≤◌, length, get_or, refl, sym, ap, subst, ◌∙◌, arith, set}
use Rattle.std.proofs.lemmas.List.{length-map}
use Rattle.np_frac.specs.Fractions.{Fraction}
use Rattle.np_simplex.specs.Tableau.{Tableau, pivot, next, run, GoesOn, line_at}
use Rattle.np_simplex.specs.Packed.{stored, pack_line, IsPacked, slot_next, slot_pivot, named}
use Rattle.np_simplex.specs.Promises.{IsRunOut}
use Rattle.np_simplex.specs.Views.{line, tableau, rows_of, last_of, start_of}
use Rattle.np_simplex.specs.Widths.{IsWideSlot, IsWideSlotTurn, IsStrained}
use Rattle.np_simplex.specs.declared.choice.Course.TheVariants.{Best, Ray, Turn}
use Rattle.np_simplex.specs.declared.choice.End.TheVariants as ends
use Rattle.np_simplex.specs.declared.pivot.Table.{Table}
use Rattle.np_simplex.specs.declared.start.Lp.{Lp}
use Rattle.np_simplex.proofs.Begin.{start_reached, run_reached}
use Rattle.np_simplex.proofs.Pivots.{IsReached}
use Rattle.np_simplex.proofs.Slots.{next_packed, slot_turn, slot_ray}
use Rattle.np_simplex.proofs.Stored.{packed_turn, wide_choice, wide_turn}
use Rattle.np_simplex.proofs.Turns.{run_more}

-- the tableau after so many pivots
abbrev pub after : Lp → ℕ → Tableau
after lp k = run (last_of lp) (start_of lp) k

-- pivots keep what they keep
pub lp_reached : (lp : Lp) (k : ℕ) → length lp.right.items ≡ length lp.rows.items
    → IsReached (length (rows_of lp.rows.items)) (last_of lp) (start_of lp) (after lp k)
lp_reached lp k e =
    let n : length (rows_of lp.rows.items) ≡ length lp.rows.items = length-map lp.rows.items (λ row. row.items) in
    subst (λ m. IsReached (length (rows_of lp.rows.items)) (m + length lp.costs.items) (start_of lp)
    (run (m + length lp.costs.items) (start_of lp) k)) n
    (run_reached (length (rows_of lp.rows.items)) (length (rows_of lp.rows.items) + length lp.costs.items) (start_of lp) k
    (start_reached (rows_of lp.rows.items) lp.right.items lp.costs.items (e ∙ sym n)))

-- the table goes on as the tableau does
pub lp_next : {N : Type 0} (value : N → Fraction) (lp : Lp) (k : ℕ) (table : Table N) → length lp.right.items ≡ length lp.rows.items
    → IsPacked value (last_of lp) table (after lp k)
    → named table.columns.items (slot_next table.columns.items (tableau value table)) ≡ next (last_of lp) (after lp k)
lp_next value lp k table e p =
    ap (λ x. named table.columns.items (slot_next table.columns.items x)) p.is
    ∙ next_packed (length (rows_of lp.rows.items)) (last_of lp) (start_of lp) (after lp k) table.columns.items
    (lp_reached lp k e) p.sized p.below p.covers

-- a turn's slot and line are there
pub lp_turn : {N : Type 0} (value : N → Fraction) (lp : Lp) (k : ℕ) (table : Table N) (s r : ℕ) → IsPacked value (last_of lp) table (after lp k)
    → slot_next table.columns.items (tableau value table) ≡ Turn s r
    → (s < length table.columns.items) × (r < length table.rows.items) × (r < length (after lp k).lines)
lp_turn value lp k table s r p h = let t : _ = slot_turn table.columns.items (tableau value table) s r h in (
  t.slot,
  omega (arith, t.line, length-map table.rows.items (line value)),
  omega (arith, t.line, ap (λ x. length x.lines) p.is, length-map (after lp k).lines (pack_line (stored (last_of lp) table.columns.items))),
)

-- the table after a pivot
pub lp_more : {N : Type 0} (value : N → Fraction) (lp : Lp) (k : ℕ) (table new : Table N) (s r : ℕ) → length lp.right.items ≡ length lp.rows.items
    → IsPacked value (last_of lp) table (after lp k) → slot_next table.columns.items (tableau value table) ≡ Turn s r
    → tableau value new ≡ slot_pivot (tableau value table) (get_or table.columns.items s 0) s r
    → new.columns.items ≡ set table.columns.items s (line_at (tableau value table).lines r).basic
    → IsPacked value (last_of lp) new (after lp (k + 1))
lp_more value lp k table new s r e p h et ec =
    subst (λ x. IsPacked value (last_of lp) new x)
    (run_more (last_of lp) (start_of lp) (after lp k) (pivot (after lp k) (get_or table.columns.items s 0) r) k
    (get_or table.columns.items s 0) r refl
    (sym (lp_next value lp k table e p) ∙ ap (λ x. named table.columns.items x) h) refl)
    (packed_turn value (length (rows_of lp.rows.items)) (last_of lp) (start_of lp) (after lp k) table new s r (lp_reached lp k e) p
    (lp_turn value lp k table s r p h).0 (lp_turn value lp k table s r p h).2 et ec)

-- ---- faults

pub lp_choice : {N : Type 0} (value : N → Fraction) (lp : Lp) (most k : ℕ) (table : Table N) → length lp.right.items ≡ length lp.rows.items
    → IsPacked value (last_of lp) table (after lp k) → k ≤ most
    → IsWideSlotTurn table.columns.items (tableau value table) → IsStrained (last_of lp) most (start_of lp)
lp_choice value lp most k table e p few w = record {
  pivots = k;
  few = few;
  wide = wide_choice value (length (rows_of lp.rows.items)) (last_of lp) (start_of lp) (after lp k) table (lp_reached lp k e) p w;
}

pub lp_pivot : {N : Type 0} (value : N → Fraction) (lp : Lp) (most k : ℕ) (table : Table N) (s r : ℕ) → length lp.right.items ≡ length lp.rows.items
    → IsPacked value (last_of lp) table (after lp k) → k ≤ most
    → slot_next table.columns.items (tableau value table) ≡ Turn s r → IsWideSlot (tableau value table) s r
    → IsStrained (last_of lp) most (start_of lp)
lp_pivot value lp most k table s r e p few h w = record {
  pivots = k;
  few = few;
  wide = wide_turn value (length (rows_of lp.rows.items)) (last_of lp) (start_of lp) (after lp k) table s r (lp_reached lp k e) p
      (lp_turn value lp k table s r p h).0 (lp_turn value lp k table s r p h).2
      (sym (lp_next value lp k table e p) ∙ ap (λ x. named table.columns.items x) h) w;
}

pub lp_goes_on : {N : Type 0} (value : N → Fraction) (lp : Lp) (most k : ℕ) (table : Table N) (s r : ℕ) → length lp.right.items ≡ length lp.rows.items
    → IsPacked value (last_of lp) table (after lp k) → k ≡ most
    → slot_next table.columns.items (tableau value table) ≡ Turn s r → GoesOn (last_of lp) most (start_of lp)
lp_goes_on value lp most k table s r e p same h = record {
  entering = get_or table.columns.items s 0;
  leaving = r;
  turns = ap (λ i. next (last_of lp) (after lp i)) (sym same) ∙ sym (lp_next value lp k table e p) ∙ ap (λ x. named table.columns.items x) h;
}

-- ---- ends

pub lp_best : {N : Type 0} (value : N → Fraction) (lp : Lp) (most k : ℕ) (table : Table N) → length lp.right.items ≡ length lp.rows.items
    → IsPacked value (last_of lp) table (after lp k) → k ≤ most
    → slot_next table.columns.items (tableau value table) ≡ Best → IsRunOut value (last_of lp) most (start_of lp) table ends.Best
lp_best value lp most k table e p few h = record {
  tableau = after lp k;
  ends = record { pivots = k; few = few; is = refl; ends = sym (lp_next value lp k table e p) ∙ ap (λ x. named table.columns.items x) h };
  packed = p;
  within = tt;
}

pub lp_ray : {N : Type 0} (value : N → Fraction) (lp : Lp) (most k : ℕ) (table : Table N) (s : ℕ) → length lp.right.items ≡ length lp.rows.items
    → IsPacked value (last_of lp) table (after lp k) → k ≤ most
    → slot_next table.columns.items (tableau value table) ≡ Ray s → IsRunOut value (last_of lp) most (start_of lp) table (ends.Ray s)
lp_ray value lp most k table s e p few h = record {
  tableau = after lp k;
  ends = record { pivots = k; few = few; is = refl; ends = sym (lp_next value lp k table e p) ∙ ap (λ x. named table.columns.items x) h };
  packed = p;
  within = slot_ray table.columns.items (tableau value table) s h;
}
