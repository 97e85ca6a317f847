-- A bound task keeps what every bound task keeps.
use Rattle.std.proofs.Common.{sym, subst, List, map}
use Rattle.std.specs.Prelude.{All}
use Rattle.np_frac.specs.Fractions.{Fraction}
use Rattle.np_model.specs.declared.task.Term.{Term}
use Rattle.np_model.specs.Plans.{metric_terms, start_values}
use Rattle.np_model.specs.Tasks.{AreDistinct}
use Rattle.np_model.proofs.Starts.{zeros_distinct}
use Rattle.np_bind.specs.BoundTasks.{IsCondition, IsKept}
use Rattle.np_bind.specs.Laws.{BoundIsBound}
use Rattle.np_bind.proofs.SameSteps.{Binds, binds_from}
use Rattle.np_bind.proofs.Proper.{proper_goal}
use Rattle.np_bind.proofs.KeptOnce.{AreKept, steps_are_kept}

pub bound_is_bound : BoundIsBound
bound_is_bound task bound t e =
    let h : Binds task bound = binds_from task bound e in
    let kept : AreKept (start_values task) bound.steps = steps_are_kept task (start_values task) h.metric bound.steps h.steps in
    record {
      values = subst (λ (vs : List (Term × Fraction)). AreDistinct (map (λ v. v.0) vs)) (sym h.values) (zeros_distinct task.values (metric_terms task) t.distinct_terms);
      few = kept.few;
      once = kept.once;
      steps = subst (λ (vs : List (Term × Fraction)). All (IsKept vs) bound.steps) (sym h.values) kept.steps;
      goal = subst (λ (vs : List (Term × Fraction)). All (IsCondition vs) bound.goal) (sym h.values) (proper_goal task (start_values task) bound.goal h.goal);
    }
