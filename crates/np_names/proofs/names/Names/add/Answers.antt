use Rattle.std.proofs.Common.{refl, ap, ◌∙◌}
use Rattle.std.specs.Prelude.{not}
use Rattle.np_names.specs.Names.{is_among}
use Rattle.np_names.proofs.NameSets.{any_key, keys_more, names_of_keys}
use Rattle.np_names.proofs.names.Names.add.Goals as goal

pub returns : goal.returns
returns c = (
  refl,
  (
    c.in_ok-fresh.ensures.added ∙ ap not (any_key c.args.name.now c.self.inside.set.keys ∙ ap (is_among c.args.name.now) c.self.view_is),
    ap names_of_keys c.in_ok-fresh.ensures.keys ∙ keys_more c.args.name c.self.inside.set.keys c.args.self.now c.self.view_is,
  ),
)
