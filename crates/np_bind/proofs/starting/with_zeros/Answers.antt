use Rattle.std.proofs.Common.{◌≡◌, ◌∙◌, sym, ap, pos, Bool, List, [], ◌∷◌, ◌++◌, add-one}
use Rattle.std.specs.Prelude.{if◌then◌else◌}
use Rattle.np_frac.specs.Fractions.{Fraction, whole}
use Rattle.np_model.specs.declared.task.Term.{Term}
use Rattle.np_bind.proofs.Zeros.{zeros_more}
use Rattle.np_bind.proofs.starting.with_zeros.Goals as goal
use Rattle.np_bind.proofs.starting.with_zeros.Goals.{then-branch+in_ok-copy+in_ok-push, else-branch}

-- the values, and 0 for a term that is new
abbrev with_new : List (Term × Fraction) → Term → Bool → List (Term × Fraction)
with_new all t is_new = if is_new then all ++ (t, whole (pos 0)) ∷ [] else all

abbrev with_one : List (Term × Fraction) → Fraction → Term → List (Term × Fraction)
with_one all x t = all ++ (t, x) ∷ []

pub loop-term-preserved : goal.loop-term-preserved
loop-term-preserved c =
    let after : c.if-branch.all ≡ with_new c.loop-term.all c.term-item.result c.in_ok-meet.field-0 = elim c.if-branch.branch [
      | then-branch+in_ok-copy+in_ok-push w ↦
          w.all-is ∙ w.in_ok-push.ensures.ok
          ∙ ap (with_one c.loop-term.all w.zero.result) w.in_ok-copy.ensures
          ∙ ap (λ x. with_one c.loop-term.all x c.term-item.result) w.zero.ensures
          ∙ ap (with_new c.loop-term.all c.term-item.result) (sym w.if-branch.true)
      | else-branch w ↦ w.all-is ∙ ap (with_new c.loop-term.all c.term-item.result) (sym w.if-branch.false)
    ] in
    let new = rw c.in_ok-given.ensures at c.in_ok-meet.ensures.new in
    let met = rw c.in_ok-given.ensures at c.in_ok-meet.ensures.met in
    rw add-one (zeros_more c.args.values.now c.loop-term.all c.if-branch.all c.args.terms.now c.loop-term.term-index c.loop-term.met c.meet.new.met (record { ref_ptr = (0, 0); now = c.term-item.result }) c.in_ok-meet.field-0
    c.loop-term-test.true c.term-item.is c.loop-term.invariant.0 c.loop-term.invariant.1 new met after)
