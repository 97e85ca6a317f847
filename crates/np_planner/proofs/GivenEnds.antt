-- From what the reading of a certificate and of a plan comes to, to what they hold.
use Rattle.std.proofs.Common.{◌≡◌, ℕ, List, Result, Ok, Err}
use Rattle.std.specs.Prelude.{IfOk, IfErr}
use Rattle.np_io.specs.Seen.{SeenShelf}
use Rattle.np_io.specs.Files.{IsHeld}
use Rattle.np_model.specs.declared.task.Step.{Step}
use Rattle.np_model.specs.declared.task.TaskParts.{TaskParts}
use Rattle.np_cert.specs.declared.certificate.Certificate.{Certificate}
use Rattle.np_answers.specs.declared.answer.File.TheVariants as file
use Rattle.np_answers.specs.declared.answer.Answer.{Answer}
use Rattle.np_answers.specs.declared.answer.Answer.TheVariants.{CannotRead, Refused, OutOfMemory}
use Rattle.np_cert.specs.Text.{Spells}
use Rattle.np_commands.specs.Checking.{IsNoCertificate}
use Rattle.np_commands.specs.Plans.{SpellsPlan, IsNoPlan}
use Rattle.np_planner.specs.ReadSteps.{IsNotFetched}
use Rattle.np_planner.specs.GivenFiles.{IsWithoutCertificate, IsWithoutPlan}
use Rattle.np_planner.specs.GivenSteps.{FindsCertificate, IsPlanFound}

module _ (name : List ℕ) (old new : SeenShelf) where
  -- the bytes can't be had
  pub certificate_unread : (answer : Answer) → IsNotFetched file.Certificate name old new answer → IsWithoutCertificate name old new answer
  certificate_unread (CannotRead f) is = is
  certificate_unread OutOfMemory is = is
  certificate_unread answer is = absurd is

  pub plan_unread : (task : TaskParts) (answer : Answer) → IsNotFetched file.Plan name old new answer → IsWithoutPlan task name old new answer
  plan_unread task (CannotRead f) is = is
  plan_unread task OutOfMemory is = is
  plan_unread task answer is = absurd is

  module _ (same : new ≡ old) (bytes : List ℕ) (held : IsHeld old.files name bytes) where
    no_certificate : (answer : Answer) → IsNoCertificate bytes answer → IsWithoutCertificate name old new answer
    no_certificate (Refused refusal) is = (same, record { bytes = bytes; held = held; of_bytes = is })
    no_certificate OutOfMemory is = same
    no_certificate answer is = absurd is

    pub certificate_found : (r : Result Certificate Answer) → IfOk r (Spells bytes) → IfErr r (IsNoCertificate bytes) → FindsCertificate name old new r
    certificate_found (Ok c) is none = (same, record { bytes = bytes; held = held; of_bytes = is })
    certificate_found (Err answer) is none = no_certificate answer none

    pub no_plan : (task : TaskParts) (answer : Answer) → IsNoPlan task bytes answer → IsWithoutPlan task name old new answer
    no_plan task (Refused refusal) is = (same, record { bytes = bytes; held = held; of_bytes = is })
    no_plan task OutOfMemory is = same
    no_plan task answer is = absurd is

    pub plan_found : (task : TaskParts) (steps : List Step) → SpellsPlan task bytes steps → IsPlanFound task name old new steps
    plan_found task steps is = (same, record { bytes = bytes; held = held; of_bytes = is })
