use Rattle.std.proofs.Common.{◌<◌, length, ap, ◌∙◌, arith, rules, Err}
use Rattle.np_simplex.proofs.Halts.{same_wide}
use Rattle.np_simplex.specs.Packed.{slot_line_of}
use Rattle.np_simplex.specs.Views.{line, rows_of}
use Rattle.np_simplex.specs.Widths.{in_step}
use Rattle.np_simplex.proofs.Made.{pushed_map}
use Rattle.np_simplex.proofs.start.start.Goals as goal

pub step_row-requires-clause-wide : goal.step_row-requires-clause-wide
step_row-requires-clause-wide g c = let l : c.loop-step.step < length c.args.lp.now.costs.items = search rules in λ k d b. c.requires.wide k
    c.loop-step.step d b l

pub returns-in_err-step_row-clause-only : goal.returns-in_err-step_row-clause-only
returns-in_err-step_row-clause-only g c = let l : c.loop-step.step < length c.args.lp.now.costs.items = search rules in
    λ s w. in_step c.loop-step.step l (c.in_err-step_row.ensures.only (c.loop-step.invariant.same ∙ s)
    (ap (λ h. Err h) (same_wide c.from_residual-in_err-step_row.result c.in_err-step_row.field-0.0 c.from_residual-in_err-step_row.ensures.1 w)))

pub loop-step-preserved : goal.loop-step-preserved
loop-step-preserved g c = record {
  made = pushed_map (line g.A.N.Scalar.value) c.loop-step.rows.items c.push-in-loop-step.new.self.items
      (slot_line_of (rows_of c.args.lp.now.rows.items) c.args.lp.now.costs.items) c.loop-step.step
      c.in_ok-step_row.field-0 c.in_ok-push-2.ensures.items c.in_ok-step_row.ensures.value c.loop-step.invariant.made;
  same = c.in_ok-step_row.ensures.same ∙ c.loop-step.invariant.same;
  later = omega (arith, c.in_ok-step_row.ensures.later, c.loop-step.invariant.later);
}
