-- SCAFFOLDING. What the steps come to by which a certificate and a plan are read.
use Rattle.std.specs.Prelude.{◌≡◌, ℕ, List, ◌⊎◌, Result, Ok, Err}
use Rattle.np_io.specs.Seen.{SeenShelf}
use Rattle.np_model.specs.declared.task.Step.{Step}
use Rattle.np_model.specs.declared.task.TaskParts.{TaskParts}
use Rattle.np_flat.specs.declared.parts.Parts.{Parts}
use Rattle.np_cert.specs.declared.certificate.Certificate.{Certificate}
use Rattle.np_answers.specs.declared.answer.Answer.{Answer}
use Rattle.np_commands.specs.Checking.{IsJudgedBeside}
use Rattle.np_planner.specs.GivenFiles.{HoldsCertificate, IsWithoutCertificate, HoldsPlan, HoldsStepsFor, IsWithoutPlan}

-- the certificate that is found under a name
abbrev pub FindsCertificate : List ℕ → SeenShelf → SeenShelf → Result Certificate Answer → Type 0
FindsCertificate name old new (Ok c) = (new ≡ old) × HoldsCertificate name old c
FindsCertificate name old new (Err answer) = IsWithoutCertificate name old new answer

-- these steps are found under a name
abbrev pub IsPlanFound : TaskParts → List ℕ → SeenShelf → SeenShelf → List Step → Type 0
IsPlanFound task name old new steps = (new ≡ old) × HoldsPlan task name old steps

-- the answer to a certificate and the plan under a name
abbrev pub IsCheckedBeside : TaskParts → Parts → Certificate → List ℕ → SeenShelf → SeenShelf → Answer → Type 0
IsCheckedBeside task flat c name old new answer =
    IsWithoutPlan task name old new answer ⊎ ((new ≡ old) × HoldsStepsFor task name old (λ steps. IsJudgedBeside flat c steps answer))
