use Rattle.std.proofs.Common.{◌≡◌, drop}
use Rattle.std.specs.List.{flat_map}
use Rattle.np_declared.specs.TypeRules.{unknown_in}
use Rattle.np_declared.proofs.unknown.known_in_predicates.Given as goal

-- unknown types are in those that are left
abbrev pub invariant-loop-declared : goal.invariant-loop-declared
invariant-loop-declared l =
    flat_map (λ x. unknown_in l.types x.parameters) l.predicates ≡ flat_map (λ x. unknown_in l.types x.parameters) (drop l.declared-index l.predicates)
