use Rattle.std.proofs.Common.{◌∙◌, ap}
use Rattle.np_model.specs.Ground.{same_term}
use Rattle.np_scale.specs.Tables.{each_once, terms_in}
use Rattle.np_scale.specs.Code.{pointed}
use Rattle.np_scale.proofs.Tables.{once_more, once_all_read}
use Rattle.np_scale.proofs.numbering.put_terms.Goals as goal

pub loop-condition-preserved : goal.loop-condition-preserved
loop-condition-preserved c =
    once_more same_term terms_in (pointed c.args.set.now.keys) (pointed c.loop-condition.set.keys) (pointed c.put_compared.new.set.keys) c.args.conditions.now c.loop-condition.condition-index
    c.condition-item.result c.loop-condition-test.true c.loop-condition.invariant
    (c.in_ok-put_compared.ensures ∙ ap (λ x. each_once same_term (pointed c.loop-condition.set.keys) (terms_in x)) c.condition-item.is)

pub returns : goal.returns
returns c =
    once_all_read same_term terms_in (pointed c.args.set.now.keys) (pointed c.loop-condition.set.keys) c.args.conditions.now c.loop-condition.condition-index c.loop-condition-test.false
    c.loop-condition.invariant
