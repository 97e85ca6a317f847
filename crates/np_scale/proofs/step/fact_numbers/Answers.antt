use Rattle.std.proofs.Common.{◌∙◌, ap}
use Rattle.np_flat.specs.States.{put_all}
use Rattle.np_scale.specs.Code.{fact_of}
use Rattle.np_scale.proofs.Steps.{facts_more}
use Rattle.np_scale.proofs.step.fact_numbers.Goals as goal

pub loop-atom-preserved : goal.loop-atom-preserved
loop-atom-preserved c = record {
  put = facts_more c.args.facts.now c.args.atoms.now c.loop-atom.numbers.items c.put_fact.new.numbers.items c.loop-atom.atom-index c.atom-item.result c.loop-atom-test.true c.loop-atom.invariant.put
      (c.in_ok-put_fact.ensures.put ∙ ap (λ x. put_all (fact_of c.args.facts.now x) c.loop-atom.numbers.items) c.atom-item.is);
  ascending = c.in_ok-put_fact.ensures.ascending;
}
