use Rattle.std.proofs.Common.{◌≡◌, pos, Some, None, take}
use Rattle.std.specs.Prelude.{if◌then◌else◌}
use Rattle.std.specs.List.{list_any}
use Rattle.std.specs.Option.{option_or}
use Rattle.indexmap.specs.IndexMap as maps
use Rattle.np_frac.specs.Fractions.{whole}
use Rattle.np_model.specs.declared.task.Term.{Term}
use Rattle.np_model.specs.Ground.{same_term}
use Rattle.np_run.proofs.kept_state.give_zeros.Given as goal

abbrev pub invariant-loop-term : goal.invariant-loop-term
invariant-loop-term l =
    (t : Term) → maps.get same_term l.map t
    ≡ option_or (maps.get same_term l.fn.map t) (if list_any (same_term t) (take l.term-index l.terms) then Some (whole (pos 0)) else None)
