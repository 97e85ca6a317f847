use Rattle.std.proofs.Common.{ℕ, ◌<◌, List, length, subst, sym}
use Rattle.std.specs.List.{All}
use Rattle.np_plan.proofs.Printing.{action_within, objects_within}
use Rattle.np_plan.proofs.print.push_step.Goals as goal

pub action_name-requires : goal.action_name-requires
action_name-requires c = action_within c.args.task.now c.args.step.now c.requires.is_step

pub push_objects-requires : goal.push_objects-requires
push_objects-requires c =
    subst (λ (ns : List ℕ). All (λ n. n < length c.args.task.now.objects) ns) (sym c.as_slice.ensures) (objects_within c.args.task.now c.requires.task c.args.step.now c.requires.is_step)
