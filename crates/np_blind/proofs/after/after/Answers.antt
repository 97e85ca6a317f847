use Rattle.std.proofs.Common.{ap, ◌∙◌}
use Rattle.np_flat.specs.States.{all_changed}
use Rattle.np_blind.proofs.Bits.{facts_are}
use Rattle.np_blind.proofs.Readings.{same_state}
use Rattle.np_blind.proofs.after.after.Goals as goal

pub returns : goal.returns
returns c =
    same_state c.in_ok-facts.facts c.in_ok-cells.cells.items c.args.step.now c.args.state.now
    (facts_are c.args.step.now c.args.state.now.facts c.in_ok-facts.facts c.in_ok-facts.ensures)
    (c.in_ok-cells.ensures ∙ ap (λ zs. all_changed c.args.step.now.changes zs) c.as_slice.ensures.value)
