use Rattle.std.proofs.Common.{◌∙◌, sym, ap, length}
use Rattle.np_model.specs.Ground.{same_term, same_term-Decides}
use Rattle.np_scale.specs.Code.{place_of}
use Rattle.np_scale.proofs.Tables.{pointed_position, pointed_length, place_some, place_none, number_missing}
use Rattle.np_scale.proofs.numbering.Values.number.Goals as goal

pub returns-in-Some : goal.returns-in-Some
returns-in-Some c =
    place_some same_term c.args.self.now c.args.term.now c.in-Some.number
    (sym c.in-Some.is ∙ c.get_index_of.ensures.index ∙ pointed_position same_term same_term-Decides c.self.inside.set.keys c.args.term.now ∙ ap (λ l. place_of same_term l c.args.term.now) c.self.view_is)

pub returns-in-None : goal.returns-in-None
returns-in-None c =
    c.len.ensures.len ∙ sym (pointed_length c.self.inside.set.keys) ∙ ap length c.self.view_is
    ∙ sym (number_missing same_term c.args.self.now c.args.term.now
    (place_none same_term c.args.self.now c.args.term.now
    (sym c.in-None.is ∙ c.get_index_of.ensures.index ∙ pointed_position same_term same_term-Decides c.self.inside.set.keys c.args.term.now ∙ ap (λ l. place_of same_term l c.args.term.now) c.self.view_is)))
