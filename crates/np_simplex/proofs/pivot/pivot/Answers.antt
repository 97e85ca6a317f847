use Rattle.std.proofs.Common.{◌≡◌, ◌+◌, map, set, length, get_or, arith, sym, ap, ◌∙◌, subst, refl, rules}
use Rattle.std.proofs.lemmas.List.{map-set, get_or-set_same, length-map, length-set, get_or_default}
use Rattle.np_simplex.specs.Tableau.{line_at, IsShaped}
use Rattle.np_simplex.specs.Packed.{slot_less, slot_leaver, slot_cleared}
use Rattle.np_simplex.specs.Views.{line}
use Rattle.np_simplex.specs.Widths.{in_slot_line}
use Rattle.np_simplex.proofs.Shapes.{width_read, line_read, shaped_set, on_err}
use Rattle.np_simplex.proofs.Packed.{pivot_done, pivot_basic, wide_other}
use Rattle.np_simplex.proofs.pivot.pivot.Goals as goal

pub leave-requires : goal.leave-requires
leave-requires g c = omega (
  arith,
  c.requires.slot,
  width_read g.A.N.Scalar.value c.args.table.now.rows.items
      (length c.args.table.now.columns.items + 1) c.args.leaving c.index_mut.result.now c.requires.sized.shaped c.requires.place
      c.index_mut.ensures.value,
)

pub copy_from_slice-requires : goal.copy_from_slice-requires
copy_from_slice-requires g c = let l : length c.args.leaver.now.items ≡ length c.as_slice.result.now = c.requires.scratch
    ∙ sym (ap length c.as_slice.ensures.value
    ∙ ap (λ x. length x.numbers.items) (c.index.ensures
    ∙ get_or-set_same c.args.table.now.rows.items c.args.leaving c.leave.new.row c.index.result.now c.requires.place) ∙ c.in_ok-leave.ensures.count
    ∙ width_read g.A.N.Scalar.value c.args.table.now.rows.items
    (length c.args.table.now.columns.items + 1) c.args.leaving c.index_mut.result.now c.requires.sized.shaped c.requires.place
    c.index_mut.ensures.value) in search rules

pub clear_rows-requires-clause-shaped : goal.clear_rows-requires-clause-shaped
clear_rows-requires-clause-shaped g c = subst
    (λ w. IsShaped w (map (line g.A.N.Scalar.value) (set c.args.table.now.rows.items c.args.leaving c.leave.new.row)))
    (sym (ap length c.as_slice-3.ensures.value ∙ ap length c.copy_from_slice.ensures.items
    ∙ (ap length c.as_slice.ensures.value ∙ ap (λ x. length x.numbers.items) (c.index.ensures
    ∙ get_or-set_same c.args.table.now.rows.items c.args.leaving c.leave.new.row c.index.result.now c.requires.place) ∙ c.in_ok-leave.ensures.count
    ∙ width_read g.A.N.Scalar.value c.args.table.now.rows.items
    (length c.args.table.now.columns.items + 1) c.args.leaving c.index_mut.result.now c.requires.sized.shaped c.requires.place
    c.index_mut.ensures.value)))
    (subst (λ lines. IsShaped (length c.args.table.now.columns.items + 1) lines)
    (sym (map-set (line g.A.N.Scalar.value) c.args.table.now.rows.items c.args.leaving c.leave.new.row))
    (shaped_set (length c.args.table.now.columns.items + 1) (map (line g.A.N.Scalar.value) c.args.table.now.rows.items) c.args.leaving
    (line g.A.N.Scalar.value c.leave.new.row) c.requires.sized.shaped
    (length-map c.leave.new.row.numbers.items g.A.N.Scalar.value ∙ c.in_ok-leave.ensures.count
    ∙ width_read g.A.N.Scalar.value c.args.table.now.rows.items
    (length c.args.table.now.columns.items + 1) c.args.leaving c.index_mut.result.now c.requires.sized.shaped c.requires.place
    c.index_mut.ensures.value)))

pub returns-in_err-clear_rows-clause-only : goal.returns-in_err-clear_rows-clause-only
returns-in_err-clear_rows-clause-only g c = λ s. on_err c.from_residual-in_err-clear_rows.result (in_slot_line
    (wide_other g.A.N.Scalar.value c.args.table.now.rows.items c.args.slot c.args.leaving c.leave.new.row
    (map g.A.N.Scalar.value c.as_slice-3.result.now)
    (slot_leaver c.args.slot (line_at (map (line g.A.N.Scalar.value) c.args.table.now.rows.items) c.args.leaving).numbers)
    (ap (map g.A.N.Scalar.value) (c.as_slice-3.ensures.value
    ∙ (c.copy_from_slice.ensures.items ∙ c.as_slice.ensures.value
    ∙ ap (λ x. x.numbers.items) (c.index.ensures
    ∙ get_or-set_same c.args.table.now.rows.items c.args.leaving c.leave.new.row c.index.result.now c.requires.place)))
    ∙ c.in_ok-leave.ensures.value
    ∙ ap (λ x. slot_leaver c.args.slot x.numbers)
    (sym (line_read g.A.N.Scalar.value c.args.table.now.rows.items c.args.leaving c.index_mut.result.now c.requires.place c.index_mut.ensures.value)))
    (c.in_err-clear_rows.ensures.only (c.in_ok-clear_list.ensures.same ∙ c.in_ok-leave.ensures.same ∙ s))))

pub returns-clause-value : goal.returns-clause-value
returns-clause-value g c = pivot_done g.A.N.Scalar.value c.args.table.now.top.items c.clear_list.new.numbers.items c.copy_from_slice.new.self.items
    c.args.table.now.rows.items c.clear_rows.new.rows.items
    (get_or c.args.table.now.columns.items c.args.slot 0) c.args.slot c.args.leaving c.index_mut.result.now c.leave.new.row
    (record { basic = c.index-entering.result.now; numbers = c.index_mut-3.result.now.numbers }) c.index_mut-3.result.now
    c.requires.place (c.in_ok-clear_rows.ensures.count
    ∙ length-set c.args.table.now.rows.items c.args.leaving c.leave.new.row) c.index_mut.ensures.value c.in_ok-leave.ensures.value
    (ap (map g.A.N.Scalar.value) (c.copy_from_slice.ensures.items ∙ c.as_slice.ensures.value
    ∙ ap (λ x. x.numbers.items) (c.index.ensures
    ∙ get_or-set_same c.args.table.now.rows.items c.args.leaving c.leave.new.row c.index.result.now c.requires.place)))
    (c.in_ok-clear_list.ensures.value ∙ ap (λ x. slot_less c.args.slot (map g.A.N.Scalar.value x)
    (map g.A.N.Scalar.value c.args.table.now.top.items)) c.as_slice-2.ensures.value)
    (c.in_ok-clear_rows.ensures.value
    ∙ ap (λ x. set (map (slot_cleared c.args.slot (map g.A.N.Scalar.value x))
    (map (line g.A.N.Scalar.value) (set c.args.table.now.rows.items c.args.leaving c.leave.new.row))) c.args.leaving
    (line_at (map (line g.A.N.Scalar.value) (set c.args.table.now.rows.items c.args.leaving c.leave.new.row)) c.args.leaving))
    c.as_slice-3.ensures.value)
    c.index_mut-3.ensures.value
    (c.index-entering.ensures ∙ get_or_default c.args.table.now.columns.items c.args.slot c.index-entering.result.now 0 c.requires.slot) refl

pub returns-clause-columns : goal.returns-clause-columns
returns-clause-columns g c = ap (λ x. set c.args.table.now.columns.items c.args.slot x)
    (pivot_basic g.A.N.Scalar.value c.copy_from_slice.new.self.items c.args.table.now.rows.items c.clear_rows.new.rows.items c.args.slot
    c.args.leaving c.index_mut.result.now c.leave.new.row c.index-2.result.now
    c.requires.place (c.in_ok-clear_rows.ensures.count
    ∙ length-set c.args.table.now.rows.items c.args.leaving c.leave.new.row) c.index_mut.ensures.value c.in_ok-leave.ensures.basic
    (c.in_ok-clear_rows.ensures.value
    ∙ ap (λ x. set (map (slot_cleared c.args.slot (map g.A.N.Scalar.value x))
    (map (line g.A.N.Scalar.value) (set c.args.table.now.rows.items c.args.leaving c.leave.new.row))) c.args.leaving
    (line_at (map (line g.A.N.Scalar.value) (set c.args.table.now.rows.items c.args.leaving c.leave.new.row)) c.args.leaving))
    c.as_slice-3.ensures.value)
    c.index-2.ensures)
