use Rattle.std.proofs.Common.{sym, ◌∙◌}
use Rattle.np_names.proofs.NameSets.{key_found}
use Rattle.np_names.proofs.names.Names.find.Goals as goal

pub returns-in-Some : goal.returns-in-Some
returns-in-Some c =
    sym c.in-Some.is ∙ (c.get_index_of.ensures.index ∙ key_found c.args.name.now c.self.inside.set.keys c.args.self.now c.self.view_is)

pub returns-in-None : goal.returns-in-None
returns-in-None c =
    sym c.in-None.is ∙ (c.get_index_of.ensures.index ∙ key_found c.args.name.now c.self.inside.set.keys c.args.self.now c.self.view_is)
