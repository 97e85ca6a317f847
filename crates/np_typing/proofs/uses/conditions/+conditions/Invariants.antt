use Rattle.std.proofs.Common.{◌≡◌, ◌++◌, take, drop}
use Rattle.std.specs.List.{flat_map}
use Rattle.np_typing.specs.Uses.{condition_faults}
use Rattle.np_typing.specs.Resolved.{conditions_of}
use Rattle.np_typing.proofs.uses.conditions.+conditions.Given as goal

-- no fault so far, and what the parts ask for so far
abbrev pub invariant-conditions-loop-part : goal.invariant-conditions-loop-part
invariant-conditions-loop-part l = record {
  left : flat_map (condition_faults l.scope) l.parts ≡ flat_map (condition_faults l.scope) (drop l.part-index l.parts);
  so_far : l.all ≡ l.fn.so_far ++ flat_map (conditions_of l.scope) (take l.part-index l.parts);
}
