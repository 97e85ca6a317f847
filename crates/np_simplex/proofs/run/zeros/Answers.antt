use Rattle.std.proofs.Common.{map, length, ap, arith}
use Rattle.std.specs.List.{range_with_len}
use Rattle.std.proofs.lemmas.List.{length-map, length-append}
use Rattle.std.proofs.lemmas.List.FromFn.{length-map-range_with_len}
use Rattle.np_frac.specs.Fractions.{Fraction}
use Rattle.np_simplex.specs.Tableau.{nought}
use Rattle.np_simplex.proofs.run.zeros.Goals as goal

pub returns-clause-value : goal.returns-clause-value
returns-clause-value g c = omega (
  arith,
  length-map c.push_zeros.new.numbers.items g.N.Scalar.value,
  ap length c.in_ok-push_zeros.ensures.value,
  length-append (map g.N.Scalar.value c.new-made.result.items) (map (λ k. nought) (range_with_len 0 c.args.count)),
  length-map c.new-made.result.items g.N.Scalar.value,
  ap length c.new-made.ensures.items,
  length-map-range_with_len {X = Fraction} (λ k. nought) 0 c.args.count,
)
