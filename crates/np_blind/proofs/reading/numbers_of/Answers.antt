use Rattle.std.proofs.Common.{ap, ◌∙◌}
use Rattle.np_blind.proofs.Bits.{next_true, next_false}
use Rattle.np_blind.proofs.reading.numbers_of.Goals as goal
use Rattle.np_blind.proofs.reading.numbers_of.Goals.{then-get+in_ok-push, else-get}

pub loop-number-preserved : goal.loop-number-preserved
loop-number-preserved c =
    elim c.if-get.branch [
      | then-get+in_ok-push w ↦
          next_true c.args.bits.now c.loop-number.number c.get.result c.loop-number.numbers.items c.if-get.numbers.items c.get.ensures w.if-get.true c.loop-number.invariant (ap (λ v. v.items) w.numbers-is ∙ w.in_ok-push.ensures.items)
      | else-get w ↦
          next_false c.args.bits.now c.loop-number.number c.get.result c.loop-number.numbers.items c.if-get.numbers.items c.get.ensures w.if-get.false c.loop-number.invariant (ap (λ v. v.items) w.numbers-is)
    ]
