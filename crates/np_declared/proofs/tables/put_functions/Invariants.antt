use Rattle.std.proofs.Common.{◌≡◌, ◌++◌, map, drop}
use Rattle.np_declared.specs.Symbols.{signature}
use Rattle.np_declared.proofs.tables.put_functions.Given as goal

-- the functions that are left are still to be put
abbrev pub invariant-loop-function : goal.invariant-loop-function
invariant-loop-function l =
    l.fn.so_far ++ map (signature l.types l.named) (map (λ f. f.0) l.functions) ≡ l.all ++ map (signature l.types l.named) (map (λ f. f.0) (drop l.function-index l.functions))
