use Rattle.std.proofs.Common.{◌≡◌, take, map}
use Rattle.np_bind.specs.Bindings.{fitting_objects}
use Rattle.np_bind.proofs.enumerating.lists_for.Given as goal

abbrev pub invariant-loop-wanted : goal.invariant-loop-wanted
invariant-loop-wanted l = l.all ≡ map (fitting_objects l.task) (take l.wanted-index l.types)
