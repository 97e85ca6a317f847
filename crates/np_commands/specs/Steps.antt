-- SCAFFOLDING. What the steps of the commands come to.
use Rattle.std.specs.Prelude.{◌≡◌, ℕ, ◌<◌, ⊤, List, [], length, map, All, IsTrue, Option, Some}
use Rattle.np_model.specs.declared.task.Step.{Step}
use Rattle.np_model.specs.declared.task.TaskParts.{TaskParts}
use Rattle.np_model.specs.Steps.{is_step}
use Rattle.np_flat.specs.declared.parts.Parts.{Parts}
use Rattle.np_flat.specs.Plans.{step_at}
use Rattle.np_plan.specs.declared.fault.PlanFault.{PlanFault}
use Rattle.np_plan.specs.declared.fault.PlanFault.TheVariants as plan
use Rattle.np_plan.specs.Layout.{steps_text}
use Rattle.np_plan.specs.Plans.{Spells}
use Rattle.np_cert.specs.declared.certificate.Limit.{Limit}
use Rattle.np_cert.specs.declared.certificate.Limit.TheVariants.{Number}
use Rattle.np_cert.specs.declared.certificate.Certificate.{Certificate}
use Rattle.np_check.specs.declared.plan_end.PlanEnd.TheVariants as plan_end
use Rattle.np_check.specs.PlanEnds.{IsPlanEnd}
use Rattle.np_evidence.specs.declared.outcome.End.{End}
use Rattle.np_evidence.specs.declared.outcome.End.TheVariants.{Plan, NoPlan, Spent as SpentAt}
use Rattle.np_answers.specs.declared.answer.File.TheVariants as file
use Rattle.np_answers.specs.declared.answer.refusal.Refusal.{Refusal}
use Rattle.np_answers.specs.declared.answer.refusal.Refusal.TheVariants.{TooLong, Syntax, NumberWide, StampOrder, UnknownStep}
use Rattle.np_answers.specs.declared.answer.solve.SolveAnswer.{SolveAnswer}
use Rattle.np_answers.specs.declared.answer.solve.SolveAnswer.TheVariants.{Optimal, Unsolvable, Spent}
use Rattle.np_answers.specs.declared.answer.check.CheckAnswer.TheVariants.{YesPlan, No}
use Rattle.np_answers.specs.declared.answer.check.Fault.TheVariants.{Stuck, NoGoal, OtherCost}
use Rattle.np_answers.specs.declared.answer.Answer.{Answer}
use Rattle.np_answers.specs.declared.answer.Answer.TheVariants.{Refused, Checked, OutOfMemory}
use Rattle.np_commands.specs.Checking.{IsCertificateFault}

-- the answer is this refusal, if it is one, or that memory ran out
abbrev pub IsRefusal : Option Refusal → Answer → Type 0
IsRefusal expected (Refused refusal) = expected ≡ Some refusal
IsRefusal expected OutOfMemory = ⊤
IsRefusal expected answer = ⊥

-- the answer where the bytes of a plan have this fault
abbrev pub no_plan : PlanFault → Answer
no_plan (plan.At place) = Refused (Syntax file.Plan place)
no_plan (plan.NumberWide place) = Refused (NumberWide file.Plan place)
no_plan plan.TooLong = Refused (TooLong file.Plan)
no_plan (plan.StampOrder place) = Refused (StampOrder place)
no_plan (plan.UnknownStep place) = Refused (UnknownStep place)
no_plan plan.Memory = OutOfMemory

-- ---- `solve`

-- numbers stand for these steps
abbrev pub StandFor : Parts → List ℕ → List Step → Type 0
StandFor flat numbers steps = map Some steps ≡ map (step_at flat) numbers

-- numbers are those of steps, and these are steps of the task
pub record AreSteps (task : TaskParts) (flat : Parts) (numbers : List ℕ) : Type 0 where
  pub numbered : All (λ n. n < length flat.steps) numbers
  pub named : (steps : List Step) → StandFor flat numbers steps → All (λ step. IsTrue (is_step task step)) steps

-- the plan that a search has found is one of steps
abbrev pub ArePlanned : TaskParts → Parts → End → Type 0
ArePlanned task flat (Plan numbers cost) = AreSteps task flat numbers.items
ArePlanned task flat end = ⊤

-- the text is that of the steps that numbers stand for, and spells them
pub record IsPlanText (task : TaskParts) (flat : Parts) (numbers : List ℕ) (text : List ℕ) : Type 0 where
  pub steps : List Step
  pub stand : StandFor flat numbers steps
  pub layout : text ≡ steps_text task steps
  pub spelled : Spells task text steps

-- the text of the plan that a search has found
abbrev pub IsPrinted : TaskParts → Parts → End → List ℕ → Type 0
IsPrinted task flat (Plan numbers cost) text = IsPlanText task flat numbers.items text
IsPrinted task flat end text = text ≡ []

-- the answer after such an end of a search with this budget
abbrev pub answer_of : ℕ → End → SolveAnswer
answer_of nodes (Plan numbers cost) = Optimal cost
answer_of nodes NoPlan = Unsolvable
answer_of nodes (SpentAt bound) = Spent nodes bound

-- ---- `check`

-- the answer names the certificate's first fault, or memory ran out
abbrev pub IsFaultTold : Parts → Certificate → Answer → Type 0
IsFaultTold flat c (Checked (No fault)) = IsCertificateFault flat c fault
IsFaultTold flat c OutOfMemory = ⊤
IsFaultTold flat c answer = ⊥

-- the answer to the steps of a plan beside this claim, on the flat task
abbrev pub IsCompared : Parts → Limit → List Step → Answer → Type 0
IsCompared flat claim steps (Checked (YesPlan cost)) = (claim ≡ Number cost) × IsPlanEnd flat steps (plan_end.Goal cost)
IsCompared flat claim steps (Checked (No (Stuck number))) = IsPlanEnd flat steps (plan_end.Stuck number)
IsCompared flat claim steps (Checked (No NoGoal)) = IsPlanEnd flat steps plan_end.NoGoal
IsCompared flat claim steps (Checked (No (OtherCost cost number))) = (claim ≡ Number number) × (cost ≡ number → ⊥) × IsPlanEnd flat steps (plan_end.Goal cost)
IsCompared flat claim steps OutOfMemory = ⊤
IsCompared flat claim steps answer = ⊥

-- the answer to a plan of this cost beside this claim
abbrev pub IsPriced : ℕ → Limit → Answer → Type 0
IsPriced cost claim (Checked (YesPlan paid)) = (paid ≡ cost) × (claim ≡ Number cost)
IsPriced cost claim (Checked (No (OtherCost paid number))) = (paid ≡ cost) × (claim ≡ Number number) × (cost ≡ number → ⊥)
IsPriced cost claim answer = ⊥
