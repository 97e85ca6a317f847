-- A small task: `inc` has no parameters, `move` has a thing and an object. The objects are the thing `a` and the object `b`.
use Rattle.std.specs.Prelude.{[], ◌∷◌, None, codes}
use Rattle.np_model.specs.declared.task.TaskParts.{TaskParts}

abbrev pub errand : TaskParts
errand = record {
  types = record { name = codes "object"; parent = 0 } ∷ record { name = codes "thing"; parent = 0 } ∷ [];
  objects = record { name = codes "a"; of = 1 } ∷ record { name = codes "b"; of = 0 } ∷ [];
  predicates = [];
  functions = [];
  actions = record { name = codes "inc"; parameters = []; needs = []; effects = [] } ∷ record { name = codes "move"; parameters = 1 ∷ 0 ∷ []; needs = []; effects = [] } ∷ [];
  atoms = [];
  values = [];
  goal = [];
  metric = None;
}
