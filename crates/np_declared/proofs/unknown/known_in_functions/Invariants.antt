use Rattle.std.proofs.Common.{◌≡◌, drop}
use Rattle.std.specs.List.{flat_map}
use Rattle.np_declared.specs.TypeRules.{unknown_in}
use Rattle.np_declared.proofs.unknown.known_in_functions.Given as goal

-- unknown types are in those that are left
abbrev pub invariant-loop-function : goal.invariant-loop-function
invariant-loop-function l =
    flat_map (λ f. unknown_in l.types f.0.parameters) l.functions ≡ flat_map (λ f. unknown_in l.types f.0.parameters) (drop l.function-index l.functions)
