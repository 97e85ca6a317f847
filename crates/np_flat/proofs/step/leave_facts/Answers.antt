use Rattle.std.proofs.Common.{sym, ◌∙◌}
use Rattle.std.proofs.lemmas.Slice.Eq.{bytes_eq-Decides}
use Rattle.np_flat.proofs.Steps.{facts_stay}
use Rattle.np_flat.proofs.step.leave_facts.Goals as goal

pub returns-then-eq : goal.returns-then-eq
returns-then-eq c =
    let same = (bytes_eq-Decides c.as_slice.result.now c.args.facts.now).0 (sym c.eq.ensures ∙ c.if-eq.true) in
    sym c.as_slice.ensures ∙ same
    ∙ sym (facts_stay c.args.step.now c.args.facts.now (c.is_empty.ensures.0 c.if-is_empty.true) (c.is_empty-then-is_empty.ensures.0 c.if-is_empty-2.true))
