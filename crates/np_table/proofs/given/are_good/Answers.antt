use Rattle.std.proofs.Common.{◌≡◌, ◌<◌, ◌≤◌, ◌+◌, ℕ, true, sym, ◌∙◌, subst, inl, inr, arith}
use Rattle.std.proofs.lemmas.Bool.{cases_lt}
use Rattle.np_flat.specs.States.{holds}
use Rattle.np_table.specs.Tables.{at}
use Rattle.np_table.specs.Lowering.{unit_at}
use Rattle.np_table.specs.Given.{is_good}
use Rattle.np_table.proofs.given.are_good.Goals as goal

pub loop-subgoal-preserved : goal.loop-subgoal-preserved
loop-subgoal-preserved c = λ q lt. elim (cases_lt q c.loop-subgoal.subgoal) [
  | inl before ↦ c.loop-subgoal.invariant q before
  | inr ge ↦ subst (λ k. is_good c.args.flat.now (holds c.args.flat.now c.args.state.now k) (at c.args.entries.now k) (at c.args.reaches.now k) (unit_at c.args.units.now k) k ≡ true)
      (last q c.loop-subgoal.subgoal lt ge) (sym c.is_good.ensures ∙ c.if-not-is_good.false)
]
  where
    last : (q n : ℕ) → q < n + 1 → n ≤ q → n ≡ q
    last q n lt ge = omega arith
