-- What a finished run promises of a linear program.
use Rattle.std.proofs.Common.{◌≡◌, ℕ, ◌+◌, ◌<◌, ◌^◌, [], length, get_or, refl, sym, ap, subst, ◌∙◌, arith}
use Rattle.std.specs.List.{range_with_len}
use Rattle.std.proofs.lemmas.List.{length-map}
use Rattle.np_frac.specs.Fractions.{Fraction}
use Rattle.np_simplex.specs.Tableau.{GoesOn}
use Rattle.np_simplex.specs.Packed.{IsPacked, slot_start, named_end}
use Rattle.np_simplex.specs.Promises.{IsRead, IsSlotRead, IsRunOut, IsAnswer, IsFromRun, most_pivots}
use Rattle.np_simplex.specs.Views.{tableau, rows_of, last_of, start_of}
use Rattle.np_simplex.specs.Widths.{AreSmall, IsStrained, HasPast, HasWide, IsUnfit, IsWideRun, at_turn, at_number}
use Rattle.np_simplex.specs.declared.choice.End.{End}
use Rattle.np_simplex.specs.declared.program.LpAnswer.{LpAnswer}
use Rattle.np_simplex.specs.declared.pivot.Table.{Table}
use Rattle.np_simplex.specs.declared.start.Lp.{Lp}
use Rattle.np_simplex.proofs.Answers.{answered_at, from_run}
use Rattle.np_simplex.proofs.Meets.{number_past, unfit_start}
use Rattle.np_simplex.proofs.OneRow.{one_row_free, one_row_few}
use Rattle.np_simplex.proofs.Pivots.{IsReached}
use Rattle.np_simplex.proofs.Readings.{start_packed, read_packed}
use Rattle.np_simplex.proofs.Runs.{lp_reached}
use Rattle.np_simplex.proofs.Stored.{wide_number}

-- the most pivots of a linear program
abbrev pub most_of : Lp → ℕ
most_of lp = most_pivots (length lp.rows.items) (length lp.costs.items)

-- how many rows there are
rows_long : (lp : Lp) → length (rows_of lp.rows.items) ≡ length lp.rows.items
rows_long lp = length-map lp.rows.items (λ row. row.items)

-- the first table holds the first tableau
pub lp_start : {N : Type 0} (value : N → Fraction) (lp : Lp) (table : Table N) → length lp.right.items ≡ length lp.rows.items
    → tableau value table ≡ slot_start (rows_of lp.rows.items) lp.right.items lp.costs.items
    → table.columns.items ≡ range_with_len 0 (length lp.rows.items) → IsPacked value (last_of lp) table (start_of lp)
lp_start value lp table e et ec = subst (λ m. IsPacked value (m + length lp.costs.items) table (start_of lp)) (rows_long lp)
    (start_packed value (rows_of lp.rows.items) lp.right.items lp.costs.items table (e ∙ sym (rows_long lp)) et (ec
    ∙ ap (λ m. range_with_len 0 m) (sym (rows_long lp))))

-- the answer is read off the tableau at the end
lp_read : {N : Type 0} (value : N → Fraction) (lp : Lp) (table : Table N) (end : End) (answer : LpAnswer N) (m n : ℕ) → m ≡ length lp.rows.items
    → n ≡ length lp.costs.items → length lp.right.items ≡ length lp.rows.items
    → (out : IsRunOut value (last_of lp) (most_of lp) (start_of lp) table end)
    → IsSlotRead value m n table.columns.items (tableau value table) end answer
    → IsRead value (length lp.rows.items) (length lp.costs.items) out.tableau (named_end table.columns.items end) answer
lp_read value lp table end answer m n em en e out r =
    read_packed value (length (rows_of lp.rows.items)) (last_of lp) (start_of lp) out.tableau table (length lp.rows.items)
    (length lp.costs.items) end answer
    (subst (λ t. IsReached (length (rows_of lp.rows.items)) (last_of lp) (start_of lp) t) (sym out.ends.is)
    (lp_reached lp out.ends.pivots e)) out.packed refl out.within
    (subst (λ i. IsSlotRead value (length lp.rows.items) i table.columns.items (tableau value table) end answer) en
    (subst (λ i. IsSlotRead value i n table.columns.items (tableau value table) end answer) em r))

pub lp_answer : {N : Type 0} (value : N → Fraction) (lp : Lp) (table : Table N) (end : End) (answer : LpAnswer N) (m n : ℕ) → m ≡ length lp.rows.items
    → n ≡ length lp.costs.items → length lp.right.items ≡ length lp.rows.items
    → ((i : ℕ) → i < length lp.rows.items → length (get_or (rows_of lp.rows.items) i []) ≡ length lp.costs.items)
    → IsRunOut value (last_of lp) (most_of lp) (start_of lp) table end → IsSlotRead value m n table.columns.items (tableau value table) end answer
    → IsAnswer value (rows_of lp.rows.items) lp.right.items lp.costs.items answer
lp_answer value lp table end answer m n em en e wide out r =
    answered_at value (rows_of lp.rows.items) lp.right.items lp.costs.items (most_of lp) (start_of lp) out.tableau
    (named_end table.columns.items end) answer (length lp.rows.items) (length lp.costs.items)
    (sym (rows_long lp)) refl refl (e ∙ sym (rows_long lp)) (λ i l. wide i (omega (arith, rows_long lp))) out.ends
    (lp_read value lp table end answer m n em en e out r)

pub lp_from_run : {N : Type 0} (value : N → Fraction) (lp : Lp) (table : Table N) (end : End) (answer : LpAnswer N) (m n : ℕ)
    → m ≡ length lp.rows.items → n ≡ length lp.costs.items → length lp.right.items ≡ length lp.rows.items
    → IsRunOut value (last_of lp) (most_of lp) (start_of lp) table end → IsSlotRead value m n table.columns.items (tableau value table) end answer
    → IsFromRun value (rows_of lp.rows.items) lp.right.items lp.costs.items answer
lp_from_run value lp table end answer m n em en e out r =
    from_run value (rows_of lp.rows.items) lp.right.items lp.costs.items (start_of lp) out.tableau (named_end table.columns.items end) answer
    (length lp.rows.items) (length lp.costs.items)
    (sym (rows_long lp)) refl refl out.ends (lp_read value lp table end answer m n em en e out r)

-- ---- where a sure arithmetic may refuse

pub lp_unfit : (lp : Lp) → IsUnfit (rows_of lp.rows.items) lp.right.items lp.costs.items → IsWideRun (last_of lp) (start_of lp)
lp_unfit lp h = at_number 0 (unfit_start (rows_of lp.rows.items) lp.right.items lp.costs.items h)

pub lp_strained : (lp : Lp) (most : ℕ) → IsStrained (last_of lp) most (start_of lp) → IsWideRun (last_of lp) (start_of lp)
lp_strained lp most h = at_turn h.pivots h.wide

pub lp_wide : {N : Type 0} (value : N → Fraction) (lp : Lp) (most : ℕ) (table : Table N) (end : End)
    → IsRunOut value (last_of lp) most (start_of lp) table end → HasWide (tableau value table) → IsWideRun (last_of lp) (start_of lp)
lp_wide value lp most table end out h = at_number out.ends.pivots
    (subst (λ t. HasPast (2 ^ 125) t) out.ends.is (number_past out.tableau (wide_number value (last_of lp) out.tableau table out.packed h)))

-- nowhere with one row
pub lp_one_row : (lp : Lp) → length lp.right.items ≡ length lp.rows.items → length lp.rows.items ≡ 1
    → AreSmall (rows_of lp.rows.items) lp.right.items lp.costs.items → IsWideRun (last_of lp) (start_of lp) → ⊥
lp_one_row lp e one h w = one_row_free (rows_of lp.rows.items) lp.right.items lp.costs.items (rows_long lp ∙ one) (e ∙ sym (rows_long lp)) h
    (subst (λ m. IsWideRun (m + length lp.costs.items) (start_of lp)) (sym (rows_long lp)) w)

-- and there are never too many pivots
pub lp_few : (lp : Lp) → length lp.right.items ≡ length lp.rows.items → length lp.rows.items ≡ 1 → GoesOn (last_of lp) (most_of lp) (start_of lp) → ⊥
lp_few lp e one w = one_row_few (rows_of lp.rows.items) lp.right.items lp.costs.items (rows_long lp ∙ one) (e ∙ sym (rows_long lp))
    (subst (λ m. GoesOn (m + length lp.costs.items) (most_pivots m (length lp.costs.items)) (start_of lp)) (sym (rows_long lp)) w)
