-- Which answers of `run` are right.
use Rattle.std.specs.Prelude.{◌≡◌}
use Rattle.np_io.specs.Seen.{SeenShelf}
use Rattle.np_run.specs.declared.answers.RunEnd.{RunEnd}
use Rattle.np_answers.specs.declared.answer.Answer.{Answer}
use Rattle.np_answers.specs.Words.{Run}
use Rattle.np_commands.specs.Running.{IsRunOf, IsRunBy}
use Rattle.np_planner.specs.TaskFiles.{HoldsTaskFor}
use Rattle.np_planner.specs.GivenFiles.{HoldsStepsFor, IsWithoutPlan}

-- the files stand for a task, the plan's file spells steps of it, and the answer is true of them
abbrev pub IsRightRun : Run → RunEnd → SeenShelf → Type 0
IsRightRun command end shelf = HoldsTaskFor command.inputs shelf (λ task. HoldsStepsFor task command.plan shelf (λ steps. IsRunOf task steps end))

-- an answer where there is a task, but no plan
abbrev pub IsRunWithoutPlan : Run → SeenShelf → SeenShelf → Answer → Type 0
IsRunWithoutPlan command old new answer = HoldsTaskFor command.inputs old (λ task. IsWithoutPlan task command.plan old new answer)

-- an answer of `run` to a task and a plan; it changes no file
abbrev pub IsRunAnswer : Run → SeenShelf → SeenShelf → Answer → Type 0
IsRunAnswer command old new answer =
    (new ≡ old) × HoldsTaskFor command.inputs old (λ task. HoldsStepsFor task command.plan old (λ steps. IsRunBy task steps answer))
