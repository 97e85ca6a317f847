-- What `run` says of a task and of steps.
use Rattle.std.specs.Prelude.{◌≡◌, ℕ, ⊤, List, Ok, Err}
use Rattle.np_model.specs.declared.task.Step.{Step}
use Rattle.np_model.specs.declared.task.TaskParts.{TaskParts}
use Rattle.np_run.specs.declared.answers.RunEnd.{RunEnd}
use Rattle.np_run.specs.declared.answers.RunFault.TheVariants.{Wide}
use Rattle.np_run.specs.RunAnswers.{IsAnswer}
use Rattle.np_run.specs.Taking.{outcome_of}
use Rattle.np_answers.specs.declared.answer.refusal.Refusal.TheVariants.{StepWide}
use Rattle.np_answers.specs.declared.answer.Answer.{Answer}
use Rattle.np_answers.specs.declared.answer.Answer.TheVariants.{Refused, Ran, OutOfMemory}

-- this answer is true of the steps, and no other. It is what the order of computing gives
pub record IsRunOf (task : TaskParts) (steps : List Step) (end : RunEnd) : Type 0 where
  pub answer : IsAnswer task steps end
  pub computed : outcome_of task steps ≡ Ok end

-- a number gets too wide while the step of this number is computed
abbrev pub IsWideAt : TaskParts → List Step → ℕ → Type 0
IsWideAt task steps number = outcome_of task steps ≡ Err (Wide number)

-- an answer of `run` to steps
abbrev pub IsRunBy : TaskParts → List Step → Answer → Type 0
IsRunBy task steps (Refused (StepWide number)) = IsWideAt task steps number
IsRunBy task steps (Ran end) = IsRunOf task steps end
IsRunBy task steps OutOfMemory = ⊤
IsRunBy task steps answer = ⊥
