use Rattle.std.proofs.Common.{◌≡◌, ◌++◌, take, drop}
use Rattle.std.specs.List.{flat_map}
use Rattle.np_typing.specs.Uses.{effect_faults}
use Rattle.np_typing.specs.Resolved.{effects_of}
use Rattle.np_typing.proofs.uses.effects.+effects.Given as goal

-- no fault so far, and what the parts do so far
abbrev pub invariant-effects-loop-part : goal.invariant-effects-loop-part
invariant-effects-loop-part l = record {
  left : flat_map (effect_faults l.scope) l.parts ≡ flat_map (effect_faults l.scope) (drop l.part-index l.parts);
  so_far : l.all ≡ l.fn.so_far ++ flat_map (effects_of l.scope) (take l.part-index l.parts);
}
