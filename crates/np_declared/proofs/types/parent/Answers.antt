use Rattle.std.proofs.Common.{List, ℕ, Option, sym, ap, ◌∙◌}
use Rattle.std.specs.Borrow.{Bor}
use Rattle.std.specs.Option.{option_map_or}
use Rattle.np_names.specs.Names.{number_of, object}
use Rattle.np_declared.specs.Types.{type_names}
use Rattle.np_declared.proofs.SupertypeLaws.{object_number}
use Rattle.np_declared.proofs.types.parent.Goals as goal

pub returns-in-None : goal.returns-in-None
returns-in-None c = λ groups names h.
    sym (object_number groups)
    ∙ ap (number_of (type_names groups)) (ap (λ (o : Option (Bor (List ℕ))). option_map_or (λ (v : Bor (List ℕ)). v.now) o object) c.in-None.ensures.value ∙ h c.args.name)
