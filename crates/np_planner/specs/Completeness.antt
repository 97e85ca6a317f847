-- That an answer comes: which files a command doesn't refuse, and what it then answers.
use Rattle.std.specs.Prelude.{◌≡◌, ℕ, ◌⊎◌, ⊤, List, Option, Some, None, Err}
use Rattle.np_io.specs.Seen.{SeenShelf}
use Rattle.np_io.specs.Files.{Files}
use Rattle.np_model.specs.declared.task.Step.{Step}
use Rattle.np_model.specs.declared.task.TaskParts.{TaskParts}
use Rattle.np_run.specs.declared.answers.RunFault.TheVariants.{Wide}
use Rattle.np_run.specs.Taking.{outcome_of}
use Rattle.np_cert.specs.declared.certificate.Certificate.{Certificate}
use Rattle.np_answers.specs.Words.{Inputs, Solve, Check, Run, solving, checking, running, listing}
use Rattle.np_planner.specs.TaskFiles.{HoldsTaskFor, HoldsFlatFor}
use Rattle.np_planner.specs.GivenFiles.{HoldsCertificate, HoldsStepsFor}
use Rattle.np_planner.specs.Promises.{Call, HadNoFault}

-- the shelf tells what it holds, and the two files stand for a task that has a flat task: reading, typing, binding and scaling don't refuse them
pub record TellsFlat (inputs : Inputs) (shelf : SeenShelf) : Type 0 where
  pub files : Files
  pub told : shelf.files ≡ Some files
  pub flat : HoldsFlatFor inputs shelf (λ task flat. ⊤)

-- the plan, where one is named, is one of steps of the task
abbrev pub HoldsNamed : TaskParts → Option (List ℕ) → SeenShelf → Type 0
HoldsNamed task None shelf = ⊤
HoldsNamed task (Some name) shelf = HoldsStepsFor task name shelf (λ steps. ⊤)

-- a certificate by expansion is under its name, and the plan, where one is named, is one of steps of the task
pub record HoldsGiven (command : Check) (task : TaskParts) (shelf : SeenShelf) : Type 0 where
  pub certificate : Certificate
  pub written : HoldsCertificate command.certificate shelf certificate
  pub plan : HoldsNamed task command.plan shelf

-- the files of `check`: the two stand for a task that has a flat task, and the others aren't refused
pub record TellsGiven (command : Check) (shelf : SeenShelf) : Type 0 where
  pub files : Files
  pub told : shelf.files ≡ Some files
  pub given : HoldsFlatFor command.inputs shelf (λ task flat. HoldsGiven command task shelf)

-- no number gets too wide while the steps are computed
abbrev pub IsNotWide : TaskParts → List Step → Type 0
IsNotWide task steps = (number : ℕ) → outcome_of task steps ≡ Err (Wide number) → ⊥

-- the files of `run`: the two stand for a task, and the plan's spells steps of it
pub record TellsPlan (command : Run) (shelf : SeenShelf) : Type 0 where
  pub files : Files
  pub told : shelf.files ≡ Some files
  pub plan : HoldsTaskFor command.inputs shelf (λ task. HoldsStepsFor task command.plan shelf (λ steps. IsNotWide task steps))

-- COMPLETENESS. Where the files aren't refused and nothing fails in the call, a command gives an answer that isn't a refusal, or memory runs out:
-- `solve` that there is a cheapest plan or none, or that the budget is spent; `check` yes or no; `run` a plan or not; `list` the text. What each
-- status then means is what it promises
pub record IsComplete (call : Call) (status : ℕ) : Type 0 where
  pub solves : (command : Solve) → call.command ≡ Some (solving command) → TellsFlat command.inputs call.before → HadNoFault call (solving command)
      → (status ≡ 0) ⊎ ((status ≡ 10) ⊎ ((status ≡ 11) ⊎ (status ≡ 7)))
  pub checks : (command : Check) → call.command ≡ Some (checking command) → TellsGiven command call.before → HadNoFault call (checking command)
      → (status ≡ 0) ⊎ ((status ≡ 6) ⊎ (status ≡ 7))
  pub runs : (command : Run) → call.command ≡ Some (running command) → TellsPlan command call.before → HadNoFault call (running command)
      → (status ≡ 0) ⊎ ((status ≡ 6) ⊎ (status ≡ 7))
  pub lists : (inputs : Inputs) → call.command ≡ Some (listing inputs) → TellsFlat inputs call.before → HadNoFault call (listing inputs)
      → (status ≡ 0) ⊎ (status ≡ 7)
