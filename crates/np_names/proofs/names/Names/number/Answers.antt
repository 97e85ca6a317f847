use Rattle.std.proofs.Common.{sym, ap, ◌∙◌, length}
use Rattle.np_names.proofs.NameSets.{key_found, number_found, number_absent, length_keys}
use Rattle.np_names.proofs.names.Names.number.Goals as goal

pub returns-in-Some : goal.returns-in-Some
returns-in-Some c =
    number_found c.in-Some.number c.args.name.now c.args.self.now
    (sym c.in-Some.is ∙ (c.get_index_of.ensures.index ∙ key_found c.args.name.now c.self.inside.set.keys c.args.self.now c.self.view_is))

pub returns-in-None : goal.returns-in-None
returns-in-None c =
    c.len.ensures.len
    ∙ (sym (length_keys c.self.inside.set.keys)
    ∙ (ap length c.self.view_is
    ∙ sym (number_absent c.args.name.now c.args.self.now
    (sym c.in-None.is ∙ (c.get_index_of.ensures.index ∙ key_found c.args.name.now c.self.inside.set.keys c.args.self.now c.self.view_is)))))
