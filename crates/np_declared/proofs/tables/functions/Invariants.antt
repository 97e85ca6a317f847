use Rattle.std.proofs.Common.{◌≡◌, ◌++◌, map, drop}
use Rattle.std.specs.List.{flat_map}
use Rattle.np_names.specs.Declarations.{all_functions, declared_functions}
use Rattle.np_declared.specs.Symbols.{signature}
use Rattle.np_declared.proofs.tables.functions.Given as goal

-- the functions of the sections that are left are still to be put
abbrev pub invariant-loop-section : goal.invariant-loop-section
invariant-loop-section l =
    map (signature l.types l.named) (all_functions l.domain) ≡ l.all ++ map (signature l.types l.named) (flat_map declared_functions (drop l.section-index l.section-items))
