use Rattle.std.proofs.Common.{◌≡◌, ◌*◌, ◌≤◌, drop, min}
use Rattle.np_bind.specs.Bindings.{binding_count}
use Rattle.np_bind.proofs.counting.binding_count.Given as goal

-- the product so far times that of the types that are left
abbrev pub invariant-loop-wanted : goal.invariant-loop-wanted
invariant-loop-wanted l =
    (min 4194305 (binding_count l.task l.types) ≡ min 4194305 (l.count * binding_count l.task (drop l.wanted-index l.types))) × (l.count ≤ 4194305)
