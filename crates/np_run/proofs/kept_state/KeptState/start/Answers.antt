use Rattle.std.proofs.Common.{◌∙◌, sym, ap}
use Rattle.np_model.specs.States.{is_among}
use Rattle.np_model.proofs.Same.{same_state}
use Rattle.np_model.proofs.Starts.{start_has, start_value}
use Rattle.np_run.proofs.kept_state.KeptState.start.Goals as goal

pub returns : goal.returns
returns c =
    same_state _ _
    (λ a. c.in_ok-atoms.ensures a ∙ ap (λ xs. is_among xs a) c.as_slice.ensures ∙ sym (start_has c.args.task.now a))
    (λ t. c.in_ok-give_zeros.ensures t
    ∙ rw (c.in_ok-values.ensures t, c.as_slice-2.ensures, c.as_slice-3.ensures, c.in_ok-terms.ensures, c.as_ref.ensures.value) (sym (start_value c.args.task.now t)))
