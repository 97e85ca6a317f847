use Rattle.std.proofs.Common.{◌≡◌, ◌+◌, ◌≤◌, drop, min}
use Rattle.np_bind.specs.Bindings.{binding_counts}
use Rattle.np_bind.proofs.counting.binding_counts.Given as goal

-- those so far, and those of the actions that are left
abbrev pub invariant-loop-action : goal.invariant-loop-action
invariant-loop-action l =
    (min 4194305 (binding_counts l.task l.action-items) ≡ min 4194305 (l.total + binding_counts l.task (drop l.action-index l.action-items))) × (l.total ≤ 4194305)
