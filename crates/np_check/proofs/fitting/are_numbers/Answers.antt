use Rattle.std.proofs.Common.{inl, inr, sym, true≢false}
use Rattle.np_check.proofs.Ascending.{rest_more, rest_fault}
use Rattle.np_check.proofs.fitting.are_numbers.Goals as goal
use Rattle.np_check.proofs.fitting.are_numbers.Goals.{then-number-least-via-then-number-least, then-number-least-via-else-number-least+then-limit-number}

pub returns-then-number-least : goal.returns-then-number-least
returns-then-number-least c = (
  λ yes. absurd (true≢false (sym yes)),
  λ all.
      absurd
      (rest_fault c.args.limit c.args.numbers.now c.loop-number.number-index c.loop-number.least c.loop-number-test.true
      (elim c.then-number-least.branch [
        | then-number-least-via-then-number-least w ↦ inl w.if-number-least.true
        | then-number-least-via-else-number-least+then-limit-number w ↦ inr w.if-limit-number.true
      ])
      c.loop-number.invariant all),
)

pub loop-number-preserved : goal.loop-number-preserved
loop-number-preserved c =
    rest_more c.args.limit c.args.numbers.now c.loop-number.number-index c.loop-number.least c.loop-number-test.true c.if-number-least.false c.if-limit-number.false c.loop-number.invariant
