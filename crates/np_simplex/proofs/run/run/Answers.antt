use Rattle.std.proofs.Common.{◌≡◌, ◌+◌, length, sym, ap, ◌∙◌, arith, refl, rules}
use Rattle.std.proofs.lemmas.List.{length-map, length-set}
use Rattle.np_simplex.specs.Promises.{most_pivots}
use Rattle.np_simplex.specs.Views.{last_of, start_of}
use Rattle.np_simplex.proofs.Runs.{after, lp_turn, lp_more, lp_choice, lp_pivot, lp_goes_on, lp_best, lp_ray}
use Rattle.np_simplex.proofs.Stored.{sized_packed}
use Rattle.np_simplex.proofs.run.run.Goals as goal

pub next-requires : goal.next-requires
next-requires g c = sized_packed g.A.N.Scalar.value (last_of c.args.lp.now) c.pivots.table
    (after c.args.lp.now c.pivots.made) c.pivots.invariant.packed

pub returns-in_err-slot-clause-only : goal.returns-in_err-slot-clause-only
returns-in_err-slot-clause-only g c = λ s w. lp_choice g.A.N.Scalar.value c.args.lp.now
    (most_pivots (length c.args.lp.now.rows.items)
    (length c.args.lp.now.costs.items)) c.pivots.made c.pivots.table c.requires.right c.pivots.invariant.packed
    (omega (arith, c.pivots.invariant.few, ap length c.as_slice.ensures.value, ap length c.as_slice-2.ensures.value))
    (c.in_err-slot.ensures.only (c.pivots.invariant.same ∙ s))

pub returns-then-made-most-clause-pivots : goal.returns-then-made-most-clause-pivots
returns-then-made-most-clause-pivots g c = λ w. lp_goes_on g.A.N.Scalar.value c.args.lp.now
    (most_pivots (length c.args.lp.now.rows.items)
    (length c.args.lp.now.costs.items)) c.pivots.made c.pivots.table c.in-Turn.slot c.in-Turn.leaving c.requires.right c.pivots.invariant.packed
    (omega (arith, c.if-made-most.true, ap length c.as_slice.ensures.value, ap length c.as_slice-2.ensures.value)) (sym c.in_ok-slot.ensures.value
    ∙ c.in-Turn.is)

pub pivot-requires-clause-sized : goal.pivot-requires-clause-sized
pivot-requires-clause-sized g c = sized_packed g.A.N.Scalar.value (last_of c.args.lp.now) c.pivots.table
    (after c.args.lp.now c.pivots.made) c.pivots.invariant.packed

pub pivot-requires-clause-slot : goal.pivot-requires-clause-slot
pivot-requires-clause-slot g c = (lp_turn g.A.N.Scalar.value c.args.lp.now c.pivots.made c.pivots.table c.in-Turn.slot c.in-Turn.leaving
    c.pivots.invariant.packed (sym c.in_ok-slot.ensures.value ∙ c.in-Turn.is)).0

pub pivot-requires-clause-place : goal.pivot-requires-clause-place
pivot-requires-clause-place g c = (lp_turn g.A.N.Scalar.value c.args.lp.now c.pivots.made c.pivots.table c.in-Turn.slot c.in-Turn.leaving
    c.pivots.invariant.packed (sym c.in_ok-slot.ensures.value ∙ c.in-Turn.is)).1

pub returns-in_err-pivot-in-Turn-clause-only : goal.returns-in_err-pivot-in-Turn-clause-only
returns-in_err-pivot-in-Turn-clause-only g c = λ s w. lp_pivot g.A.N.Scalar.value c.args.lp.now
    (most_pivots (length c.args.lp.now.rows.items)
    (length c.args.lp.now.costs.items)) c.pivots.made c.pivots.table c.in-Turn.slot c.in-Turn.leaving c.requires.right c.pivots.invariant.packed
    (omega (arith, c.pivots.invariant.few, ap length c.as_slice.ensures.value, ap length c.as_slice-2.ensures.value)) (sym c.in_ok-slot.ensures.value
    ∙ c.in-Turn.is)
    (c.in_err-pivot-in-Turn.ensures.only (c.in_ok-slot.ensures.same ∙ c.pivots.invariant.same ∙ s))

pub pivots-init : goal.pivots-init
pivots-init g c = record {
  few = omega arith;
  packed = c.requires.packed;
  scratch = let l : length c.args.table.now.top.items ≡ length c.args.table.now.columns.items + 1 =
      sym (length-map c.args.table.now.top.items g.A.N.Scalar.value)
      ∙ (sized_packed g.A.N.Scalar.value (last_of c.args.lp.now) c.args.table.now (start_of c.args.lp.now) c.requires.packed).top in
      let e : c.len.result ≡ length c.args.table.now.top.items = search rules in c.in_ok-leaver.ensures.value ∙ e ∙ l;
  same = refl;
  later = omega arith;
}

pub pivots-preserved : goal.pivots-preserved
pivots-preserved g c = record {
  few = omega (arith, c.pivots.invariant.few, c.if-made-most.false);
  packed = lp_more g.A.N.Scalar.value c.args.lp.now c.pivots.made c.pivots.table c.pivot.new.table c.in-Turn.slot c.in-Turn.leaving c.requires.right
      c.pivots.invariant.packed (sym c.in_ok-slot.ensures.value ∙ c.in-Turn.is) c.in_ok-pivot-in-Turn.ensures.value
      c.in_ok-pivot-in-Turn.ensures.columns;
  scratch = c.in_ok-pivot-in-Turn.ensures.scratch ∙ c.pivots.invariant.scratch
      ∙ ap (λ n. n + 1) (sym (ap length c.in_ok-pivot-in-Turn.ensures.columns ∙ length-set c.pivots.table.columns.items c.in-Turn.slot _));
  same = c.in_ok-pivot-in-Turn.ensures.same ∙ c.in_ok-slot.ensures.same ∙ c.pivots.invariant.same;
  later = omega (arith, c.in_ok-pivot-in-Turn.ensures.later, c.in_ok-slot.ensures.later, c.pivots.invariant.later);
}

pub returns-in-Best-clause-value : goal.returns-in-Best-clause-value
returns-in-Best-clause-value g c = lp_best g.A.N.Scalar.value c.args.lp.now
    (most_pivots (length c.args.lp.now.rows.items)
    (length c.args.lp.now.costs.items)) c.pivots.made c.pivots.table c.requires.right c.pivots.invariant.packed
    (omega (arith, c.pivots.invariant.few, ap length c.as_slice.ensures.value, ap length c.as_slice-2.ensures.value)) (sym c.in_ok-slot.ensures.value
    ∙ c.in-Best.is)

pub returns-in-Ray-clause-value : goal.returns-in-Ray-clause-value
returns-in-Ray-clause-value g c = lp_ray g.A.N.Scalar.value c.args.lp.now
    (most_pivots (length c.args.lp.now.rows.items)
    (length c.args.lp.now.costs.items)) c.pivots.made c.pivots.table c.in-Ray.slot c.requires.right c.pivots.invariant.packed
    (omega (arith, c.pivots.invariant.few, ap length c.as_slice.ensures.value, ap length c.as_slice-2.ensures.value)) (sym c.in_ok-slot.ensures.value
    ∙ c.in-Ray.is)
