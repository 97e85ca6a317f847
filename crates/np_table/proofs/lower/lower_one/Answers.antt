use Rattle.std.proofs.Common.{◌≡◌, ◌<◌, ◌+◌, ◌∙◌, ap, sym, subst, refl, length, None, arith}
use Rattle.std.proofs.lemmas.List.{get_or_default}
use Rattle.np_table.specs.Tables.{at}
use Rattle.np_table.specs.Lowering.{is_below}
use Rattle.np_table.specs.Waiting.{size}
use Rattle.np_table.proofs.Falls.{lowered_less, cap_small}
use Rattle.np_table.proofs.lower.lower_one.Goals as goal

pub returns-in_ok-put-clause-fewer : goal.returns-in_ok-put-clause-fewer
returns-in_ok-put-clause-fewer c =
    let entries = c.args.entries.now.items in
    let q = c.args.subgoal in
    let m = c.capped_sum-entry.result in
    let here : q < length entries = subst (λ k. q < k) (sym c.requires.entries) c.requires.subgoal in
    let same : c.index.result.now ≡ at entries q = c.index.ensures ∙ get_or_default entries q _ None here in
    lowered_less entries _ q m (size c.args.waiting.now) (size c.put.new.self) _ refl
    (ap (is_below m) (sym same) ∙ sym c.is_below.ensures ∙ c.if-is_below.true)
    (subst (λ k. k < 4611686018427387904) (sym c.capped_sum-entry.ensures) (cap_small (c.weight.result + c.args.reach)))
    here c.in_ok-put.ensures.size (omega arith)
