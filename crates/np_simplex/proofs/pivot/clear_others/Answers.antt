use Rattle.std.proofs.Common.{map, length, arith, sym, ap, ◌∙◌, subst}
use Rattle.std.proofs.lemmas.List.{length-map, map-set}
use Rattle.np_simplex.specs.Tableau.{blank, line_at, IsShaped}
use Rattle.np_simplex.specs.Packed.{slot_cleared}
use Rattle.np_simplex.specs.Views.{line}
use Rattle.np_simplex.specs.Widths.{IsWideSlotLess}
use Rattle.np_simplex.proofs.Partly.{others_rest, others_more, others_skip}
use Rattle.np_simplex.proofs.Shapes.{width_read, shaped_set, on_err}
use Rattle.np_simplex.proofs.pivot.clear_others.Goals as goal
use Rattle.np_simplex.proofs.pivot.clear_others.Goals.{then-i-leaving+in_ok-clear, else-i-leaving}

pub clear-requires-clause-width : goal.clear-requires-clause-width
clear-requires-clause-width g c = ap (λ row. length row.numbers.items) (sym c.index-rows-i.is)
    ∙ width_read g.A.N.Scalar.value c.loop-i.rows (length c.args.leaver.now) c.loop-i.i c.index-rows-i.result c.loop-i.invariant.shaped
    (omega (arith, c.loop-i.auto.rows)) c.index-rows-i.is

pub returns-in_err-clear-clause-only : goal.returns-in_err-clear-clause-only
returns-in_err-clear-clause-only g c = λ s. on_err c.from_residual.result (record {
  place = c.loop-i.i;
  within = omega (arith, c.loop-i.auto.rows, length-map c.args.rows.now (line g.A.N.Scalar.value));
  other = c.if-i-leaving.true;
  wide = subst (λ x. IsWideSlotLess c.args.slot (map g.A.N.Scalar.value c.args.leaver.now) x.numbers)
      (sym (others_rest (line g.A.N.Scalar.value) (slot_cleared c.args.slot (map g.A.N.Scalar.value c.args.leaver.now))
      (map (line g.A.N.Scalar.value) c.args.rows.now) c.loop-i.rows c.loop-i.i c.args.leaving c.index-rows-i.result
      (line_at (map (line g.A.N.Scalar.value) c.args.rows.now) c.args.leaving) blank
      (omega (arith, c.loop-i.auto.rows, length-map c.args.rows.now (line g.A.N.Scalar.value)))
      (omega (arith, c.loop-i.auto.rows)) c.if-i-leaving.true c.loop-i.invariant.rows))
      (c.in_err-clear.ensures.only (c.loop-i.invariant.same ∙ s));
})

pub loop-i-preserved : goal.loop-i-preserved
loop-i-preserved g c = elim c.if-i-leaving.branch [
  | then-i-leaving+in_ok-clear w ↦ record {
    rows = ap (λ rows. map (line g.A.N.Scalar.value) rows) w.rows-is
        ∙ others_more (line g.A.N.Scalar.value) (slot_cleared c.args.slot (map g.A.N.Scalar.value c.args.leaver.now))
        (map (line g.A.N.Scalar.value) c.args.rows.now) c.loop-i.rows c.loop-i.i c.args.leaving
        w.index-rows-i.result w.clear.new.row (line_at (map (line g.A.N.Scalar.value) c.args.rows.now) c.args.leaving) blank
        (omega (arith, c.loop-i.auto.rows, c.loop-i-test.true, length-map c.args.rows.now (line g.A.N.Scalar.value)))
        (omega (arith, c.loop-i.auto.rows, c.loop-i-test.true)) w.if-i-leaving.true c.loop-i.invariant.rows w.in_ok-clear.ensures.value;
    shaped = subst (λ rows. IsShaped (length c.args.leaver.now) (map (line g.A.N.Scalar.value) rows)) (sym w.rows-is)
        (subst (λ lines. IsShaped (length c.args.leaver.now) lines) (sym (map-set (line g.A.N.Scalar.value) c.loop-i.rows c.loop-i.i w.clear.new.row))
        (shaped_set (length c.args.leaver.now) (map (line g.A.N.Scalar.value) c.loop-i.rows) c.loop-i.i
        (line g.A.N.Scalar.value w.clear.new.row) c.loop-i.invariant.shaped
        (length-map w.clear.new.row.numbers.items g.A.N.Scalar.value ∙ w.in_ok-clear.ensures.count
        ∙ ap (λ row. length row.numbers.items) (sym w.index-rows-i.is)
        ∙ width_read g.A.N.Scalar.value c.loop-i.rows (length c.args.leaver.now) c.loop-i.i w.index-rows-i.result c.loop-i.invariant.shaped
        (omega (arith, c.loop-i.auto.rows, c.loop-i-test.true)) w.index-rows-i.is)));
    same = ap (λ x. g.A.Arith.sure x) w.arith-is ∙ w.in_ok-clear.ensures.same ∙ c.loop-i.invariant.same;
    later = omega (arith, ap (λ x. g.A.Arith.refused x) w.arith-is, w.in_ok-clear.ensures.later, c.loop-i.invariant.later);
  }
  | else-i-leaving w ↦ record {
    rows = ap (λ rows. map (line g.A.N.Scalar.value) rows) w.rows-is ∙ c.loop-i.invariant.rows
        ∙ others_skip (slot_cleared c.args.slot (map g.A.N.Scalar.value c.args.leaver.now))
        (map (line g.A.N.Scalar.value) c.args.rows.now) c.loop-i.i c.args.leaving
        (line_at (map (line g.A.N.Scalar.value) c.args.rows.now) c.args.leaving) blank
        (omega (arith, c.loop-i.auto.rows, c.loop-i-test.true, length-map c.args.rows.now (line g.A.N.Scalar.value))) w.if-i-leaving.false;
    shaped = subst (λ rows. IsShaped (length c.args.leaver.now) (map (line g.A.N.Scalar.value) rows)) (sym w.rows-is) c.loop-i.invariant.shaped;
    same = ap (λ x. g.A.Arith.sure x) w.arith-is ∙ c.loop-i.invariant.same;
    later = omega (arith, ap (λ x. g.A.Arith.refused x) w.arith-is, c.loop-i.invariant.later);
  }
]
