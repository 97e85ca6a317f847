use Rattle.std.proofs.Common.{◌<◌, None, ap, sym, ◌∙◌, subst, length}
use Rattle.std.proofs.lemmas.List.{get_or_default}
use Rattle.np_flat.specs.declared.parts.Parts.{Parts}
use Rattle.np_table.specs.Tables.{at}
use Rattle.np_table.proofs.Listing.{listed_more}
use Rattle.np_table.proofs.listed.listed.Goals as goal

pub loop-subgoal-preserved : goal.loop-subgoal-preserved
loop-subgoal-preserved c =
    let k = c.loop-subgoal.subgoal in
    let here : k < length c.args.entries.now =
    subst (λ n. k < n) (c.len-count.ensures ∙ ap (λ (p : Parts). length p.subgoals) c.parts.ensures.parts ∙ sym c.requires) c.loop-subgoal-test.true
    in
    listed_more (at c.args.entries.now) c.loop-subgoal.numbers.items c.add.new.numbers.items k _ c.loop-subgoal.invariant (get_or_default c.args.entries.now k _ None here) c.in_ok-add.ensures
