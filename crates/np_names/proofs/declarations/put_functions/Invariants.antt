use Rattle.std.proofs.Common.{◌≡◌, ◌++◌, map, drop}
use Rattle.np_names.specs.Declarations.{names_of, declared_repeats}
use Rattle.np_names.specs.Names.{texts}
use Rattle.np_names.proofs.declarations.put_functions.Given as goal

-- the functions that are left are still to be put, and what comes again is among them
abbrev pub invariant-loop-function : goal.invariant-loop-function
invariant-loop-function l =
    (l.initial.names ++ texts (names_of (map (λ f. f.0) l.functions)) ≡ l.names ++ texts (names_of (map (λ f. f.0) (drop l.function-index l.functions))))
    × (declared_repeats l.initial.names (map (λ f. f.0) l.functions) ≡ declared_repeats l.names (map (λ f. f.0) (drop l.function-index l.functions)))
