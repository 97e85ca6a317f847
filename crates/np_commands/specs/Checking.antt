-- What `check` says of a task, of a certificate, and of a plan.
use Rattle.std.specs.Prelude.{◌≡◌, ℕ, ⊤, pos, List}
use Rattle.np_lex.specs.declared.token.Place.{Place}
use Rattle.np_lex.specs.Tokens.{items_of}
use Rattle.np_read.specs.Faults.{IsFirstFault}
use Rattle.np_frac.specs.Fractions.{whole}
use Rattle.np_model.specs.declared.task.Step.{Step}
use Rattle.np_model.specs.declared.task.TaskParts.{TaskParts}
use Rattle.np_model.specs.Tasks.{IsTask}
use Rattle.np_model.specs.Plans.{IsPlan, IsUnsolvable, NoPlanBelow}
use Rattle.np_flat.specs.declared.parts.Parts.{Parts}
use Rattle.np_scale.specs.Scaling.{IsFlatTaskOf}
use Rattle.np_run.specs.declared.answers.RunEnd.{RunEnd}
use Rattle.np_run.specs.declared.answers.RunEnd.TheVariants as run
use Rattle.np_run.specs.RunAnswers.{IsAnswer}
use Rattle.np_cert.specs.declared.certificate.Limit.{Limit}
use Rattle.np_cert.specs.declared.certificate.Limit.TheVariants.{Number, Absent}
use Rattle.np_cert.specs.declared.certificate.Certificate.{Certificate}
use Rattle.np_cert.specs.Text.{IsWritten, Spells}
use Rattle.np_cert.specs.Text as certificate_text
use Rattle.np_cert.specs.Valid.{IsValid}
use Rattle.np_check.specs.declared.verdict.Verdict.TheVariants.{BadProof, TwiceEntry, BadEntry, BadClaim}
use Rattle.np_check.specs.Verdicts.{IsVerdict}
use Rattle.np_check.specs.declared.plan_end.PlanEnd.{PlanEnd}
use Rattle.np_check.specs.declared.plan_end.PlanEnd.TheVariants as plan
use Rattle.np_check.specs.PlanEnds.{IsPlanEnd}
use Rattle.np_answers.specs.declared.answer.File.TheVariants as file
use Rattle.np_answers.specs.declared.answer.refusal.Refusal.{Refusal}
use Rattle.np_answers.specs.declared.answer.refusal.Refusal.TheVariants.{Syntax}
use Rattle.np_answers.specs.declared.answer.check.CheckAnswer.{CheckAnswer}
use Rattle.np_answers.specs.declared.answer.check.CheckAnswer.TheVariants.{Yes, YesPlan, No}
use Rattle.np_answers.specs.declared.answer.check.Fault.{Fault}
use Rattle.np_answers.specs.declared.answer.check.Fault.TheVariants.{ProofFails, Repeats, Unjustified, ClaimAbove, Stuck, NoGoal, OtherCost}
use Rattle.np_answers.specs.declared.answer.Answer.{Answer}
use Rattle.np_answers.specs.declared.answer.Answer.TheVariants.{Refused, Checked, OutOfMemory}

-- ---- the bytes of a certificate

-- the bytes spell no certificate, and this is the place of their first fault
pub record SpellNone (bytes : List ℕ) (place : Place) : Type 0 where
  pub none : (c : Certificate) → Spells bytes c → ⊥
  pub first_fault : IsFirstFault IsWritten certificate_text.certificate (items_of bytes) place

-- why bytes are refused as a certificate; they are never too many
abbrev pub IsCertificateReason : List ℕ → Refusal → Type 0
IsCertificateReason bytes (Syntax file.Certificate place) = SpellNone bytes place
IsCertificateReason bytes refusal = ⊥

-- an answer where bytes spell no certificate
abbrev pub IsNoCertificate : List ℕ → Answer → Type 0
IsNoCertificate bytes (Refused refusal) = IsCertificateReason bytes refusal
IsNoCertificate bytes OutOfMemory = ⊤
IsNoCertificate bytes answer = ⊥

-- ---- what is said of a certificate

-- what a claim says of the plans of a task: none, of any length, costs less, or there is none
abbrev pub IsTrueClaim : Limit → TaskParts → Type 0
IsTrueClaim (Number claim) task = NoPlanBelow task (whole (pos claim))
IsTrueClaim Absent task = IsUnsolvable task

-- the certificate is valid for the task's flat task; so its claim is true of the task's plans
pub record IsValidClaim (task : TaskParts) (flat : Parts) (c : Certificate) (claim : Limit) : Type 0 where
  pub claim_is : c.claim ≡ claim
  pub valid : IsValid flat c
  pub true_claim : IsTrueClaim claim task

-- the certificate has this fault, and it is its first
abbrev pub IsCertificateFault : Parts → Certificate → Fault → Type 0
IsCertificateFault flat c (ProofFails proof) = IsVerdict flat c (BadProof proof)
IsCertificateFault flat c (Repeats entry) = IsVerdict flat c (TwiceEntry entry)
IsCertificateFault flat c (Unjustified entry) = IsVerdict flat c (BadEntry entry)
IsCertificateFault flat c ClaimAbove = IsVerdict flat c BadClaim
IsCertificateFault flat c fault = ⊥

-- what an answer says of a certificate alone
abbrev pub IsTrueOfCertificate : TaskParts → Parts → Certificate → CheckAnswer → Type 0
IsTrueOfCertificate task flat c (Yes claim) = IsValidClaim task flat c claim
IsTrueOfCertificate task flat c (No fault) = IsCertificateFault flat c fault
IsTrueOfCertificate task flat c answer = ⊥

-- ---- what is said of a certificate and a plan

-- the certificate is valid, and the steps are a plan of the task whose cost is the claim; so no plan costs less
pub record IsCheapestBy (task : TaskParts) (flat : Parts) (c : Certificate) (steps : List Step) (cost : ℕ) : Type 0 where
  pub claim : IsValidClaim task flat c (Number cost)
  pub is_plan : IsPlan task steps (whole (pos cost))

-- the certificate is valid, and the steps are no plan of the task: they come to this end on the flat task, and to this one by names
pub record IsNotPlan (task : TaskParts) (flat : Parts) (c : Certificate) (steps : List Step) (flat_end : PlanEnd) (end : RunEnd) : Type 0 where
  pub valid : IsValid flat c
  pub ends_flat : IsPlanEnd flat steps flat_end
  pub ends : IsAnswer task steps end

-- the certificate is valid, and the steps are a plan of the task, but its cost isn't the claim
pub record CostsOther (task : TaskParts) (flat : Parts) (c : Certificate) (steps : List Step) (cost claim : ℕ) : Type 0 where
  pub claim_is : c.claim ≡ Number claim
  pub valid : IsValid flat c
  pub is_plan : IsPlan task steps (whole (pos cost))
  pub other : cost ≡ claim → ⊥

-- what an answer says of a certificate and the steps of a plan; the certificate's fault comes first
abbrev pub IsTrueOfPlan : TaskParts → Parts → Certificate → List Step → CheckAnswer → Type 0
IsTrueOfPlan task flat c steps (YesPlan cost) = IsCheapestBy task flat c steps cost
IsTrueOfPlan task flat c steps (No (Stuck number)) = IsNotPlan task flat c steps (plan.Stuck number) (run.Stuck number)
IsTrueOfPlan task flat c steps (No NoGoal) = IsNotPlan task flat c steps plan.NoGoal run.NoGoal
IsTrueOfPlan task flat c steps (No (OtherCost cost claim)) = CostsOther task flat c steps cost claim
IsTrueOfPlan task flat c steps (No fault) = IsCertificateFault flat c fault
IsTrueOfPlan task flat c steps (Yes claim) = ⊥

-- ---- the answers

-- an answer to a certificate for the flat task of whatever task
abbrev pub IsJudgedAlone : Parts → Certificate → Answer → Type 0
IsJudgedAlone flat c (Checked answer) = (task : TaskParts) → IsTask task → IsFlatTaskOf task flat → IsTrueOfCertificate task flat c answer
IsJudgedAlone flat c OutOfMemory = ⊤
IsJudgedAlone flat c answer = ⊥

-- an answer to a certificate and the steps of a plan
abbrev pub IsJudgedBeside : Parts → Certificate → List Step → Answer → Type 0
IsJudgedBeside flat c steps (Checked answer) = (task : TaskParts) → IsTask task → IsFlatTaskOf task flat → IsTrueOfPlan task flat c steps answer
IsJudgedBeside flat c steps OutOfMemory = ⊤
IsJudgedBeside flat c steps answer = ⊥
