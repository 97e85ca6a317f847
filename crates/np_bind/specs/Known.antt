-- What no step changes, as private functions see it.
use Rattle.std.specs.Prelude.{List}
use Rattle.np_frac.specs.Fractions.{Fraction}
use Rattle.np_model.specs.declared.task.Term.{Term}
use Rattle.np_model.specs.declared.task.TaskParts.{TaskParts}

-- a task, and its values at the start
pub record Known : Type 0 where
  pub task : TaskParts
  pub values : List (Term × Fraction)
