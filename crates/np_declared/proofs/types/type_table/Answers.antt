use Rattle.std.proofs.Common.{sym, ap, ◌∙◌}
use Rattle.np_names.specs.Declarations.{all_types}
use Rattle.np_declared.specs.Symbols.{type_names_of}
use Rattle.np_declared.proofs.HasTables.{type_names_back}
use Rattle.np_declared.proofs.types.type_table.Goals as goal

pub acyclic-requires : goal.acyclic-requires
acyclic-requires c =
    c.in_ok-names.ensures.1
    ∙ (sym (type_names_back (all_types c.args.domain.now)) ∙ (ap type_names_of (sym c.in_ok-list.ensures.1) ∙ ap type_names_of (sym c.as_slice.ensures)))
