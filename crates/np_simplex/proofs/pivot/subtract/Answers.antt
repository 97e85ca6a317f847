use Rattle.std.proofs.Common.{map, get_or, arith, sym, ap, ◌∙◌}
use Rattle.std.proofs.lemmas.List.{length-map, get_or-map}
use Rattle.np_frac.specs.Fractions.{minus, times}
use Rattle.np_simplex.specs.Tableau.{nought}
use Rattle.np_simplex.proofs.Lines.{partly_none, partly_more, partly_all}
use Rattle.np_simplex.proofs.pivot.subtract.Goals as goal

pub loop-c-init : goal.loop-c-init
loop-c-init g c = record {
  partly = partly_none g.A.N.Scalar.value (g.A.N.Scalar.value c.args.k.now) (map g.A.N.Scalar.value c.args.other.now) c.args.numbers.now;
  same = cc;
  later = omega arith;
}

pub loop-c-preserved : goal.loop-c-preserved
loop-c-preserved g c = record {
  partly = partly_more g.A.N.Scalar.value c.loop-c.c (map g.A.N.Scalar.value c.args.numbers.now) (g.A.N.Scalar.value c.args.k.now)
      (map g.A.N.Scalar.value c.args.other.now) c.loop-c.numbers c.index-numbers-c.result c.in_ok-numbers.field-0
      c.loop-c.invariant.partly (omega (arith, c.loop-c.auto.numbers))
      (c.in_ok-numbers.ensures.value
      ∙ ap (λ y. minus (g.A.N.Scalar.value (get_or c.loop-c.numbers c.loop-c.c c.index-numbers-c.result)) (times (g.A.N.Scalar.value c.args.k.now) y))
      (ap g.A.N.Scalar.value c.index-other-c.is
      ∙ sym (get_or-map g.A.N.Scalar.value c.args.other.now c.loop-c.c c.index-other-c.result nought (omega (arith, c.loop-c.auto.numbers)))));
  same = c.less_multiple.ensures.same ∙ c.loop-c.invariant.same;
  later = omega (arith, c.less_multiple.ensures.later, c.loop-c.invariant.later);
}

pub returns-clause-value : goal.returns-clause-value
returns-clause-value g c = partly_all g.A.N.Scalar.value c.loop-c.c (map g.A.N.Scalar.value c.args.numbers.now) (g.A.N.Scalar.value c.args.k.now)
    (map g.A.N.Scalar.value c.args.other.now) c.loop-c.numbers
    c.loop-c.invariant.partly (omega (arith, c.loop-c.auto.numbers)) (length-map c.args.numbers.now g.A.N.Scalar.value ∙ c.requires
    ∙ sym (length-map c.args.other.now g.A.N.Scalar.value))
