use Rattle.std.proofs.Common.{map, arith, sym, ap, ◌∙◌}
use Rattle.std.proofs.lemmas.List.{length-map}
use Rattle.np_frac.specs.Fractions.{times}
use Rattle.np_frac.specs.Checked.{reciprocal}
use Rattle.np_frac.specs.Sizes.{are_wide_or_zero}
use Rattle.np_simplex.specs.Tableau.{nought}
use Rattle.np_simplex.proofs.Shapes.{on_err}
use Rattle.np_simplex.proofs.Partly.{over_more, over_rest}
use Rattle.np_simplex.proofs.pivot.divide.Goals as goal

pub returns-in_err-numbers-clause-only : goal.returns-in_err-numbers-clause-only
returns-in_err-numbers-clause-only g c = λ s. on_err c.from_residual.result (record {
  column = c.loop-c.c;
  wide = ap (λ x. are_wide_or_zero x (g.A.N.Scalar.value c.args.by.now))
      (over_rest g.A.N.Scalar.value (λ x. times x (reciprocal (g.A.N.Scalar.value c.args.by.now)))
      (map g.A.N.Scalar.value c.args.numbers.now) c.loop-c.numbers c.loop-c.c c.index-numbers-c.result nought
      (omega (arith, c.loop-c.auto.numbers, length-map c.args.numbers.now g.A.N.Scalar.value))
      (omega (arith, c.loop-c.auto.numbers)) c.loop-c.invariant.numbers
      ∙ ap g.A.N.Scalar.value (sym c.index-numbers-c.is))
      ∙ ap (λ x. are_wide_or_zero (g.A.N.Scalar.value x) (g.A.N.Scalar.value c.args.by.now)) c.index-numbers-c.is
      ∙ c.in_err-numbers.ensures.only (c.loop-c.invariant.same ∙ s);
})

pub loop-c-preserved : goal.loop-c-preserved
loop-c-preserved g c = record {
  numbers = over_more g.A.N.Scalar.value (λ x. times x (reciprocal (g.A.N.Scalar.value c.args.by.now)))
      (map g.A.N.Scalar.value c.args.numbers.now) c.loop-c.numbers c.loop-c.c c.index-numbers-c.result c.in_ok-numbers.field-0 nought
      (omega (arith, c.loop-c.auto.numbers, length-map c.args.numbers.now g.A.N.Scalar.value))
      (omega (arith, c.loop-c.auto.numbers)) c.loop-c.invariant.numbers c.in_ok-numbers.ensures.value;
  same = c.in_ok-numbers.ensures.same ∙ c.loop-c.invariant.same;
  later = omega (arith, c.in_ok-numbers.ensures.later, c.loop-c.invariant.later);
}
