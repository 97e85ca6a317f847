use Rattle.std.proofs.Common.{◌≡◌, ◌++◌, drop}
use Rattle.np_names.specs.Declarations.{names_of, declared_repeats}
use Rattle.np_names.specs.Names.{texts}
use Rattle.np_names.proofs.declarations.put_predicates.Given as goal

-- the predicates that are left are still to be put, and what comes again is among them
abbrev pub invariant-loop-declared : goal.invariant-loop-declared
invariant-loop-declared l =
    (l.initial.names ++ texts (names_of l.predicates) ≡ l.names ++ texts (names_of (drop l.declared-index l.predicates)))
    × (declared_repeats l.initial.names l.predicates ≡ declared_repeats l.names (drop l.declared-index l.predicates))
