use Rattle.std.proofs.Common.{◌≡◌, ◌++◌, map, drop}
use Rattle.np_declared.specs.Symbols.{signature}
use Rattle.np_declared.proofs.tables.put_predicates.Given as goal

-- the predicates that are left are still to be put
abbrev pub invariant-loop-declared : goal.invariant-loop-declared
invariant-loop-declared l =
    l.fn.so_far ++ map (signature l.types l.named) l.predicates ≡ l.all ++ map (signature l.types l.named) (drop l.declared-index l.predicates)
