-- The printed text of steps.
use Rattle.std.specs.Prelude.{ℕ, ◌++◌, List, [], slice_get, codes}
use Rattle.std.specs.List.{flat_map}
use Rattle.std.specs.Option.{option_map_or}
use Rattle.np_model.specs.declared.task.Step.{Step}
use Rattle.np_model.specs.declared.task.TaskParts.{TaskParts}

-- the names of an action and of an object
abbrev pub action_text : TaskParts → ℕ → List ℕ
action_text task n = option_map_or (λ a. a.name) (slice_get task.actions n) []

abbrev pub object_text : TaskParts → ℕ → List ℕ
object_text task n = option_map_or (λ o. o.name) (slice_get task.objects n) []

-- an object after a space
abbrev pub spaced_text : TaskParts → ℕ → List ℕ
spaced_text task n = codes " " ++ object_text task n

abbrev pub objects_text : TaskParts → List ℕ → List ℕ
objects_text task objects = flat_map (spaced_text task) objects

-- (action object ..) and a line feed
abbrev pub step_text : TaskParts → Step → List ℕ
step_text task step = codes "(" ++ action_text task step.action ++ objects_text task step.objects ++ codes ")\n"

-- a line for each step
abbrev pub steps_text : TaskParts → List Step → List ℕ
steps_text task steps = flat_map (step_text task) steps
