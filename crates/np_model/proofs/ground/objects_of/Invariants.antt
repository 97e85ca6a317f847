use Rattle.std.proofs.Common.{◌≡◌, take}
use Rattle.np_model.specs.Ground.{objects_of}
use Rattle.np_model.proofs.ground.objects_of.Given as goal

abbrev pub invariant-loop-part : goal.invariant-loop-part
invariant-loop-part l = l.new ≡ objects_of l.objects (take l.part-index l.refs)
