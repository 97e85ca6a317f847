use Rattle.std.proofs.Common.{◌∙◌, sym, ap, length}
use Rattle.np_model.specs.Ground.{same_atom, same_atom-Decides}
use Rattle.np_scale.specs.Code.{place_of}
use Rattle.np_scale.proofs.Tables.{pointed_position, pointed_length, place_some, place_none, number_missing}
use Rattle.np_scale.proofs.numbering.Facts.number.Goals as goal

pub returns-in-Some : goal.returns-in-Some
returns-in-Some c =
    place_some same_atom c.args.self.now c.args.atom.now c.in-Some.number
    (sym c.in-Some.is ∙ c.get_index_of.ensures.index ∙ pointed_position same_atom same_atom-Decides c.self.inside.set.keys c.args.atom.now ∙ ap (λ l. place_of same_atom l c.args.atom.now) c.self.view_is)

pub returns-in-None : goal.returns-in-None
returns-in-None c =
    c.len.ensures.len ∙ sym (pointed_length c.self.inside.set.keys) ∙ ap length c.self.view_is
    ∙ sym (number_missing same_atom c.args.self.now c.args.atom.now
    (place_none same_atom c.args.self.now c.args.atom.now
    (sym c.in-None.is ∙ c.get_index_of.ensures.index ∙ pointed_position same_atom same_atom-Decides c.self.inside.set.keys c.args.atom.now ∙ ap (λ l. place_of same_atom l c.args.atom.now) c.self.view_is)))
