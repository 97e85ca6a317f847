-- What the certificate and the plan that a command is given hold, or why they can't be had.
use Rattle.std.specs.Prelude.{◌≡◌, ℕ, List}
use Rattle.np_io.specs.Seen.{SeenShelf}
use Rattle.np_model.specs.declared.task.Step.{Step}
use Rattle.np_model.specs.declared.task.TaskParts.{TaskParts}
use Rattle.np_cert.specs.declared.certificate.Certificate.{Certificate}
use Rattle.np_answers.specs.declared.answer.File.TheVariants as file
use Rattle.np_answers.specs.declared.answer.Answer.{Answer}
use Rattle.np_answers.specs.declared.answer.Answer.TheVariants.{CannotRead, Refused, OutOfMemory}
use Rattle.np_cert.specs.Text.{Spells}
use Rattle.np_commands.specs.Checking.{IsCertificateReason}
use Rattle.np_commands.specs.Plans.{SpellsPlan, IsPlanReason}
use Rattle.np_planner.specs.Shelves.{HoldsBytesFor, ReadFailed}

-- ---- the certificate

-- the bytes under the name, where they are told, spell this certificate
abbrev pub HoldsCertificate : List ℕ → SeenShelf → Certificate → Type 0
HoldsCertificate name shelf c = HoldsBytesFor name shelf (λ bytes. Spells bytes c)

-- an answer where the certificate can't be read, or its bytes spell none
abbrev pub IsWithoutCertificate : List ℕ → SeenShelf → SeenShelf → Answer → Type 0
IsWithoutCertificate name old new (CannotRead f) = (f ≡ file.Certificate) × ReadFailed name old new
IsWithoutCertificate name old new (Refused refusal) = (new ≡ old) × HoldsBytesFor name old (λ bytes. IsCertificateReason bytes refusal)
IsWithoutCertificate name old new OutOfMemory = new ≡ old
IsWithoutCertificate name old new answer = ⊥

-- ---- the plan

-- the bytes under the name, where they are told, spell these steps of the task
abbrev pub HoldsPlan : TaskParts → List ℕ → SeenShelf → List Step → Type 0
HoldsPlan task name shelf steps = HoldsBytesFor name shelf (λ bytes. SpellsPlan task bytes steps)

-- the bytes under the name spell steps of the task of which this holds
pub record HoldsStepsFor (task : TaskParts) (name : List ℕ) (shelf : SeenShelf) (OfSteps : List Step → Type 0) : Type 0 where
  pub steps : List Step
  pub held : HoldsPlan task name shelf steps
  pub of_steps : OfSteps steps

-- an answer where the plan can't be read, or spells no steps of the task
abbrev pub IsWithoutPlan : TaskParts → List ℕ → SeenShelf → SeenShelf → Answer → Type 0
IsWithoutPlan task name old new (CannotRead f) = (f ≡ file.Plan) × ReadFailed name old new
IsWithoutPlan task name old new (Refused refusal) = (new ≡ old) × HoldsBytesFor name old (λ bytes. IsPlanReason task bytes refusal)
IsWithoutPlan task name old new OutOfMemory = new ≡ old
IsWithoutPlan task name old new answer = ⊥
