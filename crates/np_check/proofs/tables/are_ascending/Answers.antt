use Rattle.std.proofs.Common.{inl, inr, refl, sym, true≢false}
use Rattle.np_cert.specs.declared.certificate.Limit.TheVariants.{Number}
use Rattle.np_check.proofs.Listed.{listed_more, listed_fault, listed_end}
use Rattle.np_check.proofs.tables.are_ascending.Goals as goal
use Rattle.np_check.proofs.tables.are_ascending.Goals.{then-subgoal-least-via-then-subgoal-least, then-subgoal-least-via-else-subgoal-least+then-limit-subgoal}

pub returns-then-subgoal-least : goal.returns-then-subgoal-least
returns-then-subgoal-least c = (
  λ yes. absurd (true≢false (sym yes)),
  λ all.
      absurd
      (listed_fault c.args.limit c.args.listed.now c.loop-subgoal.subgoal-index c.loop-subgoal.least (0, Number 0) c.loop-subgoal-test.true
      (elim c.then-subgoal-least.branch [
        | then-subgoal-least-via-then-subgoal-least w ↦ inl w.if-subgoal-least.true
        | then-subgoal-least-via-else-subgoal-least+then-limit-subgoal w ↦ inr w.if-limit-subgoal.true
      ])
      c.loop-subgoal.invariant all),
)

pub loop-subgoal-preserved : goal.loop-subgoal-preserved
loop-subgoal-preserved c =
    listed_more c.args.limit c.args.listed.now c.loop-subgoal.subgoal-index c.loop-subgoal.least (0, Number 0) c.loop-subgoal-test.true c.if-subgoal-least.false c.if-limit-subgoal.false c.loop-subgoal.invariant

pub returns : goal.returns
returns c = (
  λ yes. listed_end c.args.limit c.args.listed.now c.loop-subgoal.subgoal-index c.loop-subgoal.least (0, Number 0) c.loop-subgoal-test.false c.loop-subgoal.invariant,
  λ all. refl,
)
