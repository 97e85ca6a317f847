use Rattle.std.proofs.Common.{◌==◌, ℕ, if◌then◌else◌}
use Rattle.std.specs.declared.cmp.Reverse.{Reverse}
use Rattle.std.proofs.lemmas.List.Sorted.{sum_by_popped}
use Rattle.np_table.proofs.waiting.pop.Goals as goal

pub returns-in-Some-clause-times : goal.returns-in-Some-clause-times
returns-in-Some-clause-times c = λ q. sum_by_popped (λ (x : Reverse (ℕ × ℕ)). if x.0.1 == q then 1 else 0) _ _ _ c.in-Some.ensures.permutation

pub returns-in-Some-clause-size : goal.returns-in-Some-clause-size
returns-in-Some-clause-size c = sum_by_popped (λ (x : Reverse (ℕ × ℕ)). 1) _ _ _ c.in-Some.ensures.permutation
