use Rattle.std.proofs.Common.{string_bytes, ◌++◌, List, ℕ, ◌∙◌, ap}
use Rattle.np_list.specs.ListText.{step_line}
use Rattle.np_list.proofs.Lines.{lines_more}
use Rattle.np_list.proofs.steps.push_steps.Goals as goal

pub loop-number-preserved : goal.loop-number-preserved
loop-number-preserved c =
    let task = c.args.task.now in
    let n = c.loop-number.number in
    let s = c.index-steps-number.result in
    c.in_ok-push_step_line.ensures ∙ ap (λ (t : List ℕ). t ++ step_line task n s) c.loop-number.invariant
    ∙ lines_more (step_line task) (string_bytes c.args.text.now) c.args.steps.now n s c.loop-number-test.true c.index-steps-number.is
