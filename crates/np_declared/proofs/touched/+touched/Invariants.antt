use Rattle.std.proofs.Common.{◌≡◌, fold, drop}
use Rattle.std.specs.List.{flat_map}
use Rattle.np_names.specs.Names.{with_name, texts}
use Rattle.np_declared.specs.Symbols.{touched, changed}
use Rattle.np_declared.proofs.touched.+touched.Given as goal

-- the symbols of the effects that are left are still to be added
abbrev pub invariant-add_effects-loop-effect : goal.invariant-add_effects-loop-effect
invariant-add_effects-loop-effect l =
    (fold with_name l.initial.all.predicates (texts (flat_map touched l.effects)) ≡ fold with_name l.all.predicates (texts (flat_map touched (drop l.effect-index l.effects))))
    × (fold with_name l.initial.all.functions (texts (flat_map changed l.effects)) ≡ fold with_name l.all.functions (texts (flat_map changed (drop l.effect-index l.effects))))
