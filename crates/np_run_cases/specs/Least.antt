-- The least task: the type `object` and nothing else.
use Rattle.std.specs.Prelude.{[], ◌∷◌, None, codes}
use Rattle.np_model.specs.declared.task.TaskParts.{TaskParts}

abbrev pub least : TaskParts
least = record {
  types = record { name = codes "object"; parent = 0 } ∷ [];
  objects = [];
  predicates = [];
  functions = [];
  actions = [];
  atoms = [];
  values = [];
  goal = [];
  metric = None;
}
