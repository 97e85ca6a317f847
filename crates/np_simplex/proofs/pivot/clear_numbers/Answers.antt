use Rattle.std.proofs.Common.{◌≡◌, map, set, arith, sym, ap, ◌∙◌, subst}
use Rattle.std.proofs.lemmas.List.{length-map}
use Rattle.std.specs.Result.{OnOk, OnErr}
use Rattle.np_simplex.specs.Tableau.{nought, less}
use Rattle.np_simplex.specs.Widths.{IsWideLess}
use Rattle.np_simplex.proofs.Partly.{number_read, number_written, slot_skip}
use Rattle.np_simplex.proofs.pivot.clear_numbers.Goals as goal

pub returns-then-is_nought-clause-value : goal.returns-then-is_nought-clause-value
returns-then-is_nought-clause-value g c = slot_skip c.args.slot (map g.A.N.Scalar.value c.args.leaver.now) (map g.A.N.Scalar.value c.args.numbers.now)
    (length-map c.args.numbers.now g.A.N.Scalar.value ∙ c.requires.width ∙ sym (length-map c.args.leaver.now g.A.N.Scalar.value))
    (sym (number_read g.A.N.Scalar.value c.args.numbers.now c.args.slot c.index-numbers-slot.result
    (omega (arith, c.requires.within, c.requires.width)) c.index-numbers-slot.is) ∙ c.is_nought.ensures c.if-is_nought.true)

pub returns-clause-value : goal.returns-clause-value
returns-clause-value g c = subst (λ y. OnOk c.subtract.result (map g.A.N.Scalar.value c.subtract.new.numbers ≡ y))
    (ap (λ ys. less ys (g.A.N.Scalar.value c.index-numbers-slot.result) (map g.A.N.Scalar.value c.args.leaver.now))
    (number_written g.A.N.Scalar.value c.args.numbers.now c.args.slot c.zero.result nought c.zero.ensures)
    ∙ ap (λ a. less (set (map g.A.N.Scalar.value c.args.numbers.now) c.args.slot nought) a (map g.A.N.Scalar.value c.args.leaver.now))
    (number_read g.A.N.Scalar.value c.args.numbers.now c.args.slot c.index-numbers-slot.result
    (omega (arith, c.requires.within, c.requires.width)) c.index-numbers-slot.is))
    c.subtract.ensures.value

pub returns-clause-only : goal.returns-clause-only
returns-clause-only g c = λ s. subst (λ a. OnErr c.subtract.result
    (IsWideLess (set (map g.A.N.Scalar.value c.args.numbers.now) c.args.slot nought) a (map g.A.N.Scalar.value c.args.leaver.now)))
    (number_read g.A.N.Scalar.value c.args.numbers.now c.args.slot c.index-numbers-slot.result
    (omega (arith, c.requires.within, c.requires.width)) c.index-numbers-slot.is)
    (subst (λ ys. OnErr c.subtract.result (IsWideLess ys (g.A.N.Scalar.value c.index-numbers-slot.result) (map g.A.N.Scalar.value c.args.leaver.now)))
    (number_written g.A.N.Scalar.value c.args.numbers.now c.args.slot c.zero.result nought c.zero.ensures) (c.subtract.ensures.only s))
