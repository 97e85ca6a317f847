use Rattle.std.proofs.Common.{◌∙◌, sym, ap, Ok, Result, List, ◌++◌, take, drop, suc}
use Rattle.np_frac.specs.Fractions.{Fraction}
use Rattle.np_model.specs.declared.task.Term.{Term}
use Rattle.np_linear.specs.Linears.{with_multiple, with_term}
use Rattle.np_linear.specs.declared.finding.Finding.{Finding}
use Rattle.np_linear.proofs.Places.{put_here}
use Rattle.np_linear.proofs.sums.with_multiple.Goals as goal

abbrev ok : List (Term × Fraction) → Result (List (Term × Fraction)) Finding
ok x = Ok x

pub returns-then-eq : goal.returns-then-eq
returns-then-eq c =
    ap (with_multiple c.args.zeros c.args.up c.args.term c.args.by) (sym c.as_slice-pair-items.ensures)
    ∙ c.loop-at.invariant
    ∙ put_here c.args.zeros c.args.up c.args.term c.args.by c.as_slice-pair-items.result.now c.loop-at.at c.pair-item.result c.in_ok-sum.sum c.loop-at-test.true c.pair-item.is (sym c.eq.ensures ∙ c.if-eq.true) c.in_ok-sum.ensures
    ∙ ap (λ xs. ok (take c.loop-at.at xs ++ with_term c.args.zeros c.args.term c.in_ok-sum.sum (drop (suc c.loop-at.at) xs))) c.as_slice-pair-items.ensures
    ∙ ap ok (sym c.replaced.ensures)
