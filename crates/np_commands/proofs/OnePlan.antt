-- The bytes of a plan spell one list of steps.
use Rattle.std.proofs.Common.{◌≡◌, ℕ, List}
use Rattle.np_model.specs.declared.task.Step.{Step}
use Rattle.np_model.specs.declared.task.TaskParts.{TaskParts}
use Rattle.np_model.specs.Tasks.{IsTask}
use Rattle.np_plan.specs.Plans.{Spells}
use Rattle.np_plan.proofs.Reading.{read_only}
use Rattle.np_commands.proofs.OnePlanText.{one_text}

pub one_plan : (task : TaskParts) → IsTask task → (bytes : List ℕ) (steps other : List Step) → Spells task bytes steps → Spells task bytes other → other ≡ steps
one_plan task good bytes steps other one two =
    read_only task bytes one.text one.spelled (λ q spells. one_text bytes one.text q one.spelled spells) good steps one.named other two
