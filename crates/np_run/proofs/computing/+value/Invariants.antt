use Rattle.std.proofs.Common.{◌≡◌, drop, map}
use Rattle.np_run.specs.Kept.{kept}
use Rattle.np_run.specs.Computing.{computed_value, parts_from, begin}
use Rattle.np_run.proofs.computing.+value.Given as goal

-- the parts that are left go on from what is so far
abbrev pub invariant-parts_of-loop-part : goal.invariant-parts_of-loop-part
invariant-parts_of-loop-part l =
    parts_from l.adds (begin l.adds) (map (computed_value l.objects (kept l.state)) l.parts)
    ≡ parts_from l.adds l.total (map (computed_value l.objects (kept l.state)) (drop l.part-index l.parts))
