use Rattle.std.proofs.Common.{◌∙◌, sym, ap}
use Rattle.np_model.specs.Ground.{same_term, same_term-Decides}
use Rattle.np_scale.specs.Code.{place_of}
use Rattle.np_scale.proofs.Tables.{pointed_position}
use Rattle.np_scale.proofs.numbering.Values.find.Goals as goal

pub returns-in-Some : goal.returns-in-Some
returns-in-Some c = sym c.in-Some.is ∙ c.get_index_of.ensures.index ∙ pointed_position same_term same_term-Decides c.self.inside.set.keys c.args.term.now ∙ ap (λ l. place_of same_term l c.args.term.now) c.self.view_is

pub returns-in-None : goal.returns-in-None
returns-in-None c = sym c.in-None.is ∙ c.get_index_of.ensures.index ∙ pointed_position same_term same_term-Decides c.self.inside.set.keys c.args.term.now ∙ ap (λ l. place_of same_term l c.args.term.now) c.self.view_is
