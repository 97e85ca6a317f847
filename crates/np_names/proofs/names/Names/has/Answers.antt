use Rattle.std.proofs.Common.{ap, ◌∙◌}
use Rattle.np_names.specs.Names.{is_among}
use Rattle.np_names.proofs.NameSets.{any_key}
use Rattle.np_names.proofs.names.Names.has.Goals as goal

pub returns : goal.returns
returns c = c.contains.ensures ∙ (any_key c.args.name.now c.self.inside.set.keys ∙ ap (is_among c.args.name.now) c.self.view_is)
