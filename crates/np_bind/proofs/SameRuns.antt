-- A task and its bound task have the same runs from the start, and the same plans.
use Rattle.std.proofs.Common.{◌≡◌, sym, ◌∙◌, ap, List, Some}
use Rattle.std.specs.Prelude.{option_and_then}
use Rattle.np_frac.specs.Fractions.{Fraction}
use Rattle.np_model.specs.declared.task.Step.{Step}
use Rattle.np_model.specs.declared.task.TaskParts.{TaskParts}
use Rattle.np_model.specs.States.{State}
use Rattle.np_model.specs.Plans.{start_values, start_of, run_from, IsPlan}
use Rattle.np_model.specs.Tasks.{IsTask}
use Rattle.np_bind.specs.declared.bound.BoundParts.{BoundParts}
use Rattle.np_bind.specs.BoundPlans.{bound_next_of, bound_run_from, bound_cost_from, IsBoundPlan}
use Rattle.np_bind.specs.Laws.{SameRun, SameRuns, SamePlans, DroppedNeverGoes}
use Rattle.np_bind.proofs.LeftConditions.{Follows}
use Rattle.np_bind.proofs.Starts.{start_follows}
use Rattle.np_bind.proofs.SameSteps.{Binds, binds_from, start_is, step_same, same_run, same_cost, run_follows, same_goal}

-- each state that a run from the start ends in follows the start
end_follows : (task : TaskParts) (bound : BoundParts) → IsTask task → Binds task bound → (steps : List Step) (s : State)
    → run_from task steps (start_of task) ≡ Some s → Follows task (start_values task) s
end_follows task bound t h steps s e =
    run_follows task bound t.fixed_predicates t.fixed_functions h steps (start_of task) s (start_follows task)
    (sym (same_run task bound t.fixed_predicates t.fixed_functions h steps (start_of task) (start_follows task)) ∙ e)

pub same_runs : SameRuns
same_runs task bound t e steps =
    let h : Binds task bound = binds_from task bound e in
    record {
      ends = same_run task bound t.fixed_predicates t.fixed_functions h steps (start_of task) (start_follows task)
          ∙ ap (bound_run_from bound.steps steps) (start_is task bound h);
      costs = same_cost task bound t.fixed_predicates t.fixed_functions h steps (start_of task) (start_follows task)
          ∙ ap (bound_cost_from bound.steps steps) (start_is task bound h);
      goal = λ s ends. same_goal task bound s h (end_follows task bound t h steps s ends);
    }

-- a plan of the task is one of the bound task
bound_plan : (task : TaskParts) (bound : BoundParts) (steps : List Step) (cost : Fraction) → SameRun task bound steps → IsPlan task steps cost → IsBoundPlan bound steps cost
bound_plan task bound steps cost same p = record {
  end = p.end;
  runs = sym same.ends ∙ p.runs;
  goal = sym (same.goal p.end p.runs) ∙ p.goal;
  costs = sym same.costs ∙ p.costs;
}

-- and the other way round
task_plan : (task : TaskParts) (bound : BoundParts) (steps : List Step) (cost : Fraction) → SameRun task bound steps → IsBoundPlan bound steps cost → IsPlan task steps cost
task_plan task bound steps cost same p = record {
  end = p.end;
  runs = same.ends ∙ p.runs;
  goal = same.goal p.end (same.ends ∙ p.runs) ∙ p.goal;
  costs = same.costs ∙ p.costs;
}

pub same_plans : SamePlans
same_plans task bound t e steps cost =
    let same : SameRun task bound steps = same_runs task bound t e steps in
    (λ p. bound_plan task bound steps cost same p, λ p. task_plan task bound steps cost same p)

pub dropped_never_goes : DroppedNeverGoes
dropped_never_goes task bound t e step dropped steps s ends =
    let h : Binds task bound = binds_from task bound e in
    (step_same task bound step s t.fixed_predicates t.fixed_functions h (end_follows task bound t h steps s ends)).leads
    ∙ ap (option_and_then (λ b. bound_next_of b s)) dropped
