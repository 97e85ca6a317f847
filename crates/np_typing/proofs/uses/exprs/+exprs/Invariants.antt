use Rattle.std.proofs.Common.{◌≡◌, map, take, drop}
use Rattle.std.specs.List.{flat_map}
use Rattle.np_typing.specs.Uses.{expr_faults}
use Rattle.np_typing.specs.Resolved.{sum_of}
use Rattle.np_typing.proofs.uses.exprs.+exprs.Given as goal

-- no fault so far, and what the parts stand for so far
abbrev pub invariant-exprs-loop-part : goal.invariant-exprs-loop-part
invariant-exprs-loop-part l = record {
  left : flat_map (expr_faults l.scope l.in_amount) l.parts ≡ flat_map (expr_faults l.scope l.in_amount) (drop l.part-index l.parts);
  so_far : l.sums ≡ map (sum_of l.scope) (take l.part-index l.parts);
}
