-- Which answers of `check` are right.
use Rattle.std.specs.Prelude.{◌≡◌, ℕ, pos, List, Option, Some, None}
use Rattle.np_io.specs.Seen.{SeenShelf}
use Rattle.np_io.specs.Files.{Files}
use Rattle.np_frac.specs.Fractions.{whole}
use Rattle.np_model.specs.declared.task.Step.{Step}
use Rattle.np_model.specs.declared.task.TaskParts.{TaskParts}
use Rattle.np_model.specs.Plans.{IsPlan}
use Rattle.np_syntax.specs.declared.domain.Domain.{Domain}
use Rattle.np_problem.specs.declared.problem.Problem.{Problem}
use Rattle.np_typing.specs.TaskOf.{task_of}
use Rattle.np_flat.specs.declared.parts.Parts.{Parts}
use Rattle.np_scale.specs.Scaling.{IsFlatTaskOf}
use Rattle.np_cert.specs.declared.certificate.Limit.{Limit}
use Rattle.np_cert.specs.declared.certificate.Limit.TheVariants.{Number}
use Rattle.np_cert.specs.declared.certificate.Certificate.{Certificate}
use Rattle.np_cert.specs.Valid.{IsValid}
use Rattle.np_answers.specs.declared.answer.check.CheckAnswer.{CheckAnswer}
use Rattle.np_answers.specs.declared.answer.Answer.{Answer}
use Rattle.np_answers.specs.declared.answer.Answer.TheVariants.{Checked, OutOfMemory}
use Rattle.np_answers.specs.Words.{Check}
use Rattle.np_commands.specs.Checking.{IsTrueOfCertificate, IsTrueOfPlan}
use Rattle.np_planner.specs.TaskFiles.{HoldsTask, HoldsFlatFor}
use Rattle.np_planner.specs.GivenFiles.{HoldsCertificate, IsWithoutCertificate, HoldsPlan, HoldsStepsFor, IsWithoutPlan}

-- an answer where there is a flat task, but no certificate that is judged
abbrev pub IsCheckWithoutCertificate : Check → SeenShelf → SeenShelf → Answer → Type 0
IsCheckWithoutCertificate command old new answer = HoldsFlatFor command.inputs old (λ task flat. IsWithoutCertificate command.certificate old new answer)

-- the words name a plan and the certificate could be had, but the plan can't
pub record IsWithoutNamed (command : Check) (task : TaskParts) (old new : SeenShelf) (answer : Answer) : Type 0 where
  pub certificate : Certificate
  pub written : HoldsCertificate command.certificate old certificate
  pub name : List ℕ
  pub named : command.plan ≡ Some name
  pub without : IsWithoutPlan task name old new answer

-- an answer where there are a flat task and a certificate, but not the plan that the words name
abbrev pub IsCheckWithoutPlan : Check → SeenShelf → SeenShelf → Answer → Type 0
IsCheckWithoutPlan command old new answer = HoldsFlatFor command.inputs old (λ task flat. IsWithoutNamed command task old new answer)

-- what an answer says of a certificate, and of the steps under the name of the plan, where the words name one
abbrev pub IsTrueBeside : TaskParts → Parts → Certificate → Option (List ℕ) → SeenShelf → CheckAnswer → Type 0
IsTrueBeside task flat c None shelf answer = IsTrueOfCertificate task flat c answer
IsTrueBeside task flat c (Some name) shelf answer = HoldsStepsFor task name shelf (λ steps. IsTrueOfPlan task flat c steps answer)

-- under the names of the words are a task that has a flat task, a certificate by expansion, and, where they name one, a plan; and the
-- answer is true of them
pub record IsRightCheck (command : Check) (answer : CheckAnswer) (shelf : SeenShelf) : Type 0 where
  pub domain : Domain
  pub problem : Problem
  pub pair : HoldsTask command.inputs shelf domain problem
  pub flat : Parts
  pub is_flat : IsFlatTaskOf (task_of domain problem) flat
  pub certificate : Certificate
  pub written : HoldsCertificate command.certificate shelf certificate
  pub true_answer : IsTrueBeside (task_of domain problem) flat certificate command.plan shelf answer

-- an answer of `check` to all that its words name; it changes no file
abbrev pub IsCheckAnswer : Check → SeenShelf → SeenShelf → Answer → Type 0
IsCheckAnswer command old new (Checked answer) = (new ≡ old) × IsRightCheck command answer old
IsCheckAnswer command old new OutOfMemory = new ≡ old
IsCheckAnswer command old new answer = ⊥

-- ---- what gets a yes

-- the shelf tells what it holds, and under the names of the words are a task that has a flat task, and a certificate by expansion with this
-- claim that is valid for it
pub record HoldsValid (command : Check) (claim : Limit) (shelf : SeenShelf) : Type 0 where
  pub files : Files
  pub told : shelf.files ≡ Some files
  pub domain : Domain
  pub problem : Problem
  pub pair : HoldsTask command.inputs shelf domain problem
  pub flat : Parts
  pub is_flat : IsFlatTaskOf (task_of domain problem) flat
  pub certificate : Certificate
  pub written : HoldsCertificate command.certificate shelf certificate
  pub valid : IsValid flat certificate
  pub claim_is : certificate.claim ≡ claim

-- the words name a plan, and under its name are steps that are a plan of the task, of this cost
pub record HoldsPlanOf (command : Check) (task : TaskParts) (cost : ℕ) (shelf : SeenShelf) : Type 0 where
  pub name : List ℕ
  pub named : command.plan ≡ Some name
  pub steps : List Step
  pub held : HoldsPlan task name shelf steps
  pub is_plan : IsPlan task steps (whole (pos cost))

-- both, with the plan's cost as the claim
pub record HoldsOptimal (command : Check) (cost : ℕ) (shelf : SeenShelf) : Type 0 where
  pub valid : HoldsValid command (Number cost) shelf
  pub plan : HoldsPlanOf command (task_of valid.domain valid.problem) cost shelf
