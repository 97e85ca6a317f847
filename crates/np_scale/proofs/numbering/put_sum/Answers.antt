use Rattle.std.proofs.Common.{◌∙◌, ap, [], ◌∷◌}
use Rattle.np_model.specs.Ground.{same_term}
use Rattle.np_scale.specs.Tables.{each_once}
use Rattle.np_scale.specs.Code.{pointed}
use Rattle.np_scale.proofs.Tables.{once_more, once_all_read, firsts, pointed_insert}
use Rattle.np_scale.proofs.numbering.put_sum.Goals as goal

pub loop-term-preserved : goal.loop-term-preserved
loop-term-preserved c =
    once_more same_term (λ t. t.0 ∷ []) (pointed c.args.set.now.keys) (pointed c.loop-term.set.keys) (pointed c.insert.new.self.keys) c.args.terms.now c.loop-term.term-index
    c.loop-term-item.result c.loop-term-test.true c.loop-term.invariant
    (ap pointed c.in_ok-insert.ensures.keys ∙ pointed_insert same_term c.loop-term.set.keys _ ∙ ap (λ x. each_once same_term (pointed c.loop-term.set.keys) (x.0 ∷ [])) c.loop-term-item.is)

pub returns : goal.returns
returns c =
    once_all_read same_term (λ t. t.0 ∷ []) (pointed c.args.set.now.keys) (pointed c.loop-term.set.keys) c.args.terms.now c.loop-term.term-index c.loop-term-test.false
    c.loop-term.invariant
    ∙ ap (each_once same_term (pointed c.args.set.now.keys)) (firsts c.args.terms.now)
