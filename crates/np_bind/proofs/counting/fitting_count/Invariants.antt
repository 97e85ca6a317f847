use Rattle.std.proofs.Common.{◌≡◌, ◌+◌, ◌≤◌, drop, length}
use Rattle.np_bind.specs.Bindings.{fitting_objects, objects_from}
use Rattle.np_bind.proofs.counting.fitting_count.Given as goal

-- those so far, and those among the objects that are left
abbrev pub invariant-loop-object : goal.invariant-loop-object
invariant-loop-object l =
    (length (fitting_objects l.task l.wanted) ≡ l.count + length (objects_from l.task.types l.wanted l.object-index (drop l.object-index l.object-items))) × (l.count ≤ l.object-index)
