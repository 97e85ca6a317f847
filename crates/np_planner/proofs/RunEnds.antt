-- From what the steps of `run` come to, to what its answer says.
use Rattle.std.proofs.Common.{◌≡◌, ℕ, inr, inl, List, [], ◌∷◌, ◌∙◌, subst}
use Rattle.std.specs.Prelude.{IsTrue, All}
use Rattle.std.proofs.lemmas.List.Elements.{All-nil, All-cons}
use Rattle.np_io.specs.Seen.{SeenShelf}
use Rattle.np_model.specs.declared.task.Step.{Step}
use Rattle.np_model.specs.declared.task.TaskParts.{TaskParts}
use Rattle.np_model.specs.Steps.{is_step}
use Rattle.np_plan.specs.declared.plan.PlanLine.{PlanLine}
use Rattle.np_plan.specs.Plans.{NameAll}
use Rattle.np_answers.specs.declared.answer.Answer.{Answer}
use Rattle.np_answers.specs.Words.{Run, running}
use Rattle.np_commands.specs.Running.{IsRunBy}
use Rattle.np_planner.specs.GivenFiles.{HoldsPlan, HoldsStepsFor, IsWithoutPlan}
use Rattle.np_planner.specs.RightAnswers.{IsRightTo}
use Rattle.np_planner.specs.TaskSteps.{HoldsTaskAs}
use Rattle.np_planner.proofs.TaskEnds.{task_for}

-- the plan can't be had
pub unplanned : (command : Run) (old after new : SeenShelf) (task : TaskParts) → (after ≡ old) × HoldsTaskAs command.inputs old task → (answer : Answer) → IsWithoutPlan task command.plan after new answer
    → IsRightTo (running command) old new answer
unplanned command old after new task (same, of) answer is =
    inr (inl (task_for command.inputs old task of (λ t. IsWithoutPlan t command.plan old new answer) (subst (λ (s : SeenShelf). IsWithoutPlan task command.plan s new answer) same is)))

-- the steps were run
pub ran : (command : Run) (old after new : SeenShelf) (task : TaskParts) → (after ≡ old) × HoldsTaskAs command.inputs old task → (steps : List Step) → (new ≡ after) × HoldsPlan task command.plan after steps
    → (answer : Answer) → IsRunBy task steps answer → IsRightTo (running command) old new answer
ran command old after new task (first, of) steps (second, held) answer is =
    inr (inr (
      second ∙ first,
      task_for command.inputs old task of (λ t. HoldsStepsFor t command.plan old (λ ss. IsRunBy t ss answer))
          (record { steps = steps; held = subst (λ (s : SeenShelf). HoldsPlan task command.plan s steps) first held; of_steps = is }),
    ))

-- steps that lines name are the task's
named_steps : (task : TaskParts) (lines : List PlanLine) (steps : List Step) → NameAll task lines steps → All (λ step. IsTrue (is_step task step)) steps
named_steps task [] [] named = All-nil (λ step. IsTrue (is_step task step))
named_steps task [] (s ∷ steps) named = absurd named
named_steps task (l ∷ lines) [] named = absurd named
named_steps task (l ∷ lines) (s ∷ steps) named = All-cons (λ step. IsTrue (is_step task step)) s steps named.0.is_step (named_steps task lines steps named.1)

pub plan_steps : (task : TaskParts) (name : List ℕ) (shelf : SeenShelf) (steps : List Step) → HoldsPlan task name shelf steps → All (λ step. IsTrue (is_step task step)) steps
plan_steps task name shelf steps held = named_steps task held.of_bytes.spelled.text.lines steps held.of_bytes.spelled.named
