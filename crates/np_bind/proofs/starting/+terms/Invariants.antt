use Rattle.std.proofs.Common.{◌≡◌, ◌++◌, drop, map}
use Rattle.std.specs.List.{flat_map}
use Rattle.np_model.specs.Values.{terms_of}
use Rattle.np_bind.proofs.starting.+terms.Given as goal

-- the terms so far, and those of the parts that are left
abbrev pub invariant-terms_of_parts-loop-part : goal.invariant-terms_of_parts-loop-part
invariant-terms_of_parts-loop-part l =
    l.fn.before ++ flat_map (λ x. x) (map terms_of l.parts) ≡ l.all ++ flat_map (λ x. x) (map terms_of (drop l.part-index l.parts))
