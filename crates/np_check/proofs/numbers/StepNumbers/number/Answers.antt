use Rattle.std.proofs.Common.{ℕ, List, Option, length, MatchOption, sym, ◌∙◌, subst}
use Rattle.np_flat.specs.declared.parts.FlatStep.{FlatStep}
use Rattle.np_check.specs.Walks.{IsNumberOf, HasNoNumber}
use Rattle.np_check.proofs.numbers.StepNumbers.number.Goals as goal

pub returns : goal.returns
returns c =
    let step = c.args.step.now in
    let steps = c.self.inside.steps.now in
    subst (λ (ss : List FlatStep). MatchOption c.copied.result (HasNoNumber ss (length ss) step) (IsNumberOf ss step)) c.self.view_is
    (subst (λ (found : Option ℕ). MatchOption found (HasNoNumber steps (length steps) step) (IsNumberOf steps step)) (sym (c.copied.ensures ∙ c.get.ensures.value))
    (c.self.invariant (record { ref_ptr = c.args.step.ref_ptr; now = step })))
