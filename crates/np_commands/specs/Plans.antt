-- What the bytes of a plan spell of a task, and what is wrong with them.
use Rattle.std.specs.Prelude.{ℕ, ◌≤◌, ◌^◌, ⊤, List, length}
use Rattle.np_model.specs.declared.task.Step.{Step}
use Rattle.np_model.specs.declared.task.TaskParts.{TaskParts}
use Rattle.np_plan.specs.declared.fault.PlanFault.{PlanFault}
use Rattle.np_plan.specs.declared.fault.PlanFault.TheVariants as plan_fault
use Rattle.np_plan.specs.Plans.{Spells}
use Rattle.np_plan.specs.Faults.{HasCause}
use Rattle.np_answers.specs.declared.answer.File.TheVariants as file
use Rattle.np_answers.specs.declared.answer.refusal.Refusal.{Refusal}
use Rattle.np_answers.specs.declared.answer.refusal.Refusal.TheVariants.{TooLong, Syntax, NumberWide, StampOrder, UnknownStep}
use Rattle.np_answers.specs.declared.answer.Answer.{Answer}
use Rattle.np_answers.specs.declared.answer.Answer.TheVariants.{Refused, OutOfMemory}

-- the bytes spell these steps of the task, of which there are at most 2^24
pub record SpellsPlan (task : TaskParts) (bytes : List ℕ) (steps : List Step) : Type 0 where
  pub spelled : Spells task bytes steps
  pub few : length steps ≤ 2 ^ 24

-- the bytes spell no steps of the task, and this is the first cause
pub record SpellNoPlan (task : TaskParts) (bytes : List ℕ) (fault : PlanFault) : Type 0 where
  pub none : (steps : List Step) → SpellsPlan task bytes steps → ⊥
  pub cause : HasCause task bytes fault

-- why the bytes spell no steps of a task
abbrev pub IsPlanReason : TaskParts → List ℕ → Refusal → Type 0
IsPlanReason task bytes (TooLong file.Plan) = SpellNoPlan task bytes plan_fault.TooLong
IsPlanReason task bytes (Syntax file.Plan place) = SpellNoPlan task bytes (plan_fault.At place)
IsPlanReason task bytes (NumberWide file.Plan place) = SpellNoPlan task bytes (plan_fault.NumberWide place)
IsPlanReason task bytes (StampOrder place) = SpellNoPlan task bytes (plan_fault.StampOrder place)
IsPlanReason task bytes (UnknownStep place) = SpellNoPlan task bytes (plan_fault.UnknownStep place)
IsPlanReason task bytes refusal = ⊥

-- an answer where the bytes of a plan spell no steps of a task
abbrev pub IsNoPlan : TaskParts → List ℕ → Answer → Type 0
IsNoPlan task bytes (Refused refusal) = IsPlanReason task bytes refusal
IsNoPlan task bytes OutOfMemory = ⊤
IsNoPlan task bytes answer = ⊥
