use Rattle.np_typing.proofs.SpelledPairs.{spelled_pair}
use Rattle.np_planner.proofs.task_files.held_task.Goals as goal

pub typed-requires : goal.typed-requires
typed-requires g c =
    let both = c.in-Ok.ensures.1 in
    spelled_pair both.domain_held.bytes both.problem_held.bytes c.in-Ok.domain c.in-Ok.problem both.domain_held.spelled both.problem_held.spelled both.domain_held.read.within both.problem_held.read.within
