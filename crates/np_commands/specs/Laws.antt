-- Laws of the definitions: a refusal has one reason at most, and of a certificate and a plan one answer at most is true.
use Rattle.std.specs.Prelude.{◌≡◌, ℕ, List}
use Rattle.np_model.specs.declared.task.Step.{Step}
use Rattle.np_model.specs.declared.task.TaskParts.{TaskParts}
use Rattle.np_flat.specs.declared.parts.Parts.{Parts}
use Rattle.np_cert.specs.declared.certificate.Certificate.{Certificate}
use Rattle.np_answers.specs.declared.answer.refusal.Refusal.{Refusal}
use Rattle.np_answers.specs.declared.answer.check.CheckAnswer.{CheckAnswer}
use Rattle.np_commands.specs.FlatTasks.{IsTaskReason}
use Rattle.np_commands.specs.Checking.{IsCertificateReason, IsTrueOfCertificate, IsTrueOfPlan}
use Rattle.np_commands.specs.Plans.{IsPlanReason}

-- a task is refused for one reason at most
abbrev pub OneTaskReason : Type 0
OneTaskReason = (task : TaskParts) (r s : Refusal) → IsTaskReason task r → IsTaskReason task s → r ≡ s

-- so are the bytes of a certificate
abbrev pub OneCertificateReason : Type 0
OneCertificateReason = (bytes : List ℕ) (r s : Refusal) → IsCertificateReason bytes r → IsCertificateReason bytes s → r ≡ s

-- and those of a plan
abbrev pub OnePlanReason : Type 0
OnePlanReason = (task : TaskParts) (bytes : List ℕ) (r s : Refusal) → IsPlanReason task bytes r → IsPlanReason task bytes s → r ≡ s

-- one answer at most is true of a certificate
abbrev pub OneOfCertificate : Type 0
OneOfCertificate = (task : TaskParts) (flat : Parts) (c : Certificate) (a b : CheckAnswer) → IsTrueOfCertificate task flat c a → IsTrueOfCertificate task flat c b → a ≡ b

-- and of a certificate and the steps of a plan
abbrev pub OneOfPlan : Type 0
OneOfPlan = (task : TaskParts) (flat : Parts) (c : Certificate) (steps : List Step) (a b : CheckAnswer) → IsTrueOfPlan task flat c steps a → IsTrueOfPlan task flat c steps b → a ≡ b
