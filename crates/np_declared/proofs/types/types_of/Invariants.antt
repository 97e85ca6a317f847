use Rattle.std.proofs.Common.{◌≡◌, ◌++◌, map, drop}
use Rattle.np_names.specs.Declarations.{all_types}
use Rattle.np_declared.specs.Types.{type_named, types_of}
use Rattle.np_declared.proofs.types.types_of.Given as goal

-- the types of the names that are left are still to be put
abbrev pub invariant-loop-name : goal.invariant-loop-name
invariant-loop-name l = types_of (all_types l.domain) ≡ l.types ++ map (λ k. type_named (all_types l.domain) k.now) (drop l.name-index l.name-items)
