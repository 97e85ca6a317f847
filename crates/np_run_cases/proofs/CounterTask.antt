-- Parts that are equal to the counter's are a task.
use Rattle.std.proofs.Common.{◌≡◌, sym, subst}
use Rattle.np_model.specs.declared.task.TaskParts.{TaskParts}
use Rattle.np_model.specs.Tasks.{IsTask}
use Rattle.np_model.proofs.Counter.{counter}
use Rattle.np_model.proofs.Formed.{counter_is_a_task}

pub counter_stands : (task : TaskParts) → task ≡ counter → IsTask task
counter_stands task e = subst IsTask (sym e) counter_is_a_task
