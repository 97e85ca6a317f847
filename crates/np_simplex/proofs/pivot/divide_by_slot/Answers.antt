use Rattle.std.proofs.Common.{◌≡◌, map, set, pos, ap, ◌∙◌, subst}
use Rattle.std.specs.Result.{OnOk, OnErr}
use Rattle.np_frac.specs.Fractions.{whole}
use Rattle.np_simplex.specs.Tableau.{divided}
use Rattle.np_simplex.specs.Widths.{IsWideDivided}
use Rattle.np_simplex.proofs.Partly.{number_read, number_written}
use Rattle.np_simplex.proofs.pivot.divide_by_slot.Goals as goal

pub returns-clause-value : goal.returns-clause-value
returns-clause-value g c = subst (λ y. OnOk c.divide.result (map g.A.N.Scalar.value c.divide.new.numbers ≡ y))
    (ap (λ ys. divided ys (g.A.N.Scalar.value c.index-numbers-slot.result))
    (number_written g.A.N.Scalar.value c.args.numbers.now c.args.slot c.one.result (whole (pos 1)) c.one.ensures)
    ∙ ap (λ a. divided (set (map g.A.N.Scalar.value c.args.numbers.now) c.args.slot (whole (pos 1))) a)
    (number_read g.A.N.Scalar.value c.args.numbers.now c.args.slot c.index-numbers-slot.result c.requires c.index-numbers-slot.is))
    c.divide.ensures.value

pub returns-clause-only : goal.returns-clause-only
returns-clause-only g c = λ s. subst (λ a. OnErr c.divide.result
    (IsWideDivided (set (map g.A.N.Scalar.value c.args.numbers.now) c.args.slot (whole (pos 1))) a))
    (number_read g.A.N.Scalar.value c.args.numbers.now c.args.slot c.index-numbers-slot.result c.requires c.index-numbers-slot.is)
    (subst (λ ys. OnErr c.divide.result (IsWideDivided ys (g.A.N.Scalar.value c.index-numbers-slot.result)))
    (number_written g.A.N.Scalar.value c.args.numbers.now c.args.slot c.one.result (whole (pos 1)) c.one.ensures) (c.divide.ensures.only s))
