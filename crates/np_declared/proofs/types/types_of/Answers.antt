use Rattle.std.proofs.Common.{map, sym, ap, ◌∙◌}
use Rattle.np_names.specs.Declarations.{all_types}
use Rattle.np_declared.specs.Types.{type_named}
use Rattle.np_declared.proofs.SupertypeLaws.{named_keys}
use Rattle.np_declared.proofs.types.types_of.Goals as goal

pub loop-name-init : goal.loop-name-init
loop-name-init c =
    rw c.new-types.ensures
    (ap (map (type_named (all_types c.args.domain.now))) (sym c.requires ∙ sym c.as_slice-name-items.ensures) ∙ named_keys (all_types c.args.domain.now) c.as_slice-name-items.result.now)
