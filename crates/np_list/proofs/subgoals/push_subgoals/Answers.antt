use Rattle.std.proofs.Common.{string_bytes, ◌++◌, List, ℕ, ◌∙◌, ap}
use Rattle.np_list.specs.ListText.{subgoal_line}
use Rattle.np_list.proofs.Lines.{lines_more}
use Rattle.np_list.proofs.subgoals.push_subgoals.Goals as goal

pub loop-number-preserved : goal.loop-number-preserved
loop-number-preserved c =
    let n = c.loop-number.number in
    let s = c.index-subgoals-number.result in
    c.in_ok-push_subgoal_line.ensures ∙ ap (λ (t : List ℕ). t ++ subgoal_line n s) c.loop-number.invariant
    ∙ lines_more subgoal_line (string_bytes c.args.text.now) c.args.subgoals.now n s c.loop-number-test.true c.index-subgoals-number.is
