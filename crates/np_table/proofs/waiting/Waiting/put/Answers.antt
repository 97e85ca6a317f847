use Rattle.std.proofs.Common.{◌==◌, ℕ}
use Rattle.std.specs.Prelude.{if◌then◌else◌}
use Rattle.std.specs.declared.cmp.Reverse.{Reverse}
use Rattle.std.proofs.lemmas.List.Sorted.{sum_by_pushed}
use Rattle.np_table.proofs.Waits.{put_waits}
use Rattle.np_table.proofs.waiting.Waiting.put.Goals as goal

pub returns-clause-waiting : goal.returns-clause-waiting
returns-clause-waiting c =
    put_waits c.args.self.now.marks.items c.args.subgoal _ _ (λ q. sum_by_pushed (λ (x : Reverse (ℕ × ℕ)). if x.0.1 == q then 1 else 0) _ _ _ c.in_ok-push.ensures.permutation) c.requires.waiting

pub returns-clause-size : goal.returns-clause-size
returns-clause-size c = sum_by_pushed (λ (x : Reverse (ℕ × ℕ)). 1) _ _ _ c.in_ok-push.ensures.permutation
