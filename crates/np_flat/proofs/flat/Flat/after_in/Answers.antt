use Rattle.std.proofs.Common.{ap, ◌∙◌, subst}
use Rattle.std.proofs.lemmas.Result.{on_ok_weaker}
use Rattle.np_flat.specs.Flats.{IsFlat}
use Rattle.np_flat.proofs.Steps.{is_state, is_near}
use Rattle.np_flat.proofs.flat.Flat.after_in.Goals as goal

pub returns-clause-state_of : goal.returns-clause-state_of
returns-clause-state_of c =
    on_ok_weaker c.leave_after.result
    (λ is. is_state c.args.self.now c.as_slice.result.now c.args.step c.index-as_slice-step.result c.args.state.now c.leave_after.new.after
    (subst IsFlat c.self.view_is c.self.invariant.0) (c.as_slice.ensures ∙ ap (λ p. p.steps) c.self.view_is) c.requires.number c.index-as_slice-step.is is c.requires.state)
    c.leave_after.ensures

pub returns-clause-small : goal.returns-clause-small
returns-clause-small c =
    on_ok_weaker c.leave_after.result
    (λ is. is_near c.args.self.now c.as_slice.result.now c.args.step c.index-as_slice-step.result c.args.state.now c.leave_after.new.after
    (subst IsFlat c.self.view_is c.self.invariant.0) (c.as_slice.ensures ∙ ap (λ p. p.steps) c.self.view_is) c.requires.number c.index-as_slice-step.is is c.requires.within)
    c.leave_after.ensures
