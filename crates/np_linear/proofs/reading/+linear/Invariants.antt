use Rattle.std.proofs.Common.{◌≡◌, drop, map}
use Rattle.np_linear.specs.Linears.{linear_of, parts_from, begin}
use Rattle.np_linear.proofs.reading.+linear.Given as goal

-- the parts that are left go on from what is so far
abbrev pub invariant-parts_of-loop-part : goal.invariant-parts_of-loop-part
invariant-parts_of-loop-part l =
    parts_from l.adds (begin l.adds) (map (linear_of l.functions l.values l.objects) l.parts)
    ≡ parts_from l.adds l.total (map (linear_of l.functions l.values l.objects) (drop l.part-index l.parts))
