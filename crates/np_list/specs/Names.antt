-- Ground atoms, terms and steps by the names of a task: `(name object ..)`. A number that names nothing prints nothing.
use Rattle.std.specs.Prelude.{ℕ, ◌++◌, List, [], slice_get, codes}
use Rattle.std.specs.List.{flat_map}
use Rattle.std.specs.Option.{option_map_or}
use Rattle.np_model.specs.declared.task.Atom.{Atom}
use Rattle.np_model.specs.declared.task.Term.{Term}
use Rattle.np_model.specs.declared.task.Step.{Step}
use Rattle.np_model.specs.declared.task.TaskParts.{TaskParts}

abbrev pub predicate_name : TaskParts → ℕ → List ℕ
predicate_name task n = option_map_or (λ s. s.name) (slice_get task.predicates n) []

abbrev pub function_name : TaskParts → ℕ → List ℕ
function_name task n = option_map_or (λ s. s.name) (slice_get task.functions n) []

abbrev pub action_name : TaskParts → ℕ → List ℕ
action_name task n = option_map_or (λ a. a.name) (slice_get task.actions n) []

abbrev pub object_name : TaskParts → ℕ → List ℕ
object_name task n = option_map_or (λ o. o.name) (slice_get task.objects n) []

-- an object after a space
abbrev pub spaced_object : TaskParts → ℕ → List ℕ
spaced_object task n = codes " " ++ object_name task n

-- (name object ..)
abbrev pub call_text : TaskParts → List ℕ → List ℕ → List ℕ
call_text task name objects = codes "(" ++ name ++ flat_map (spaced_object task) objects ++ codes ")"

abbrev pub atom_text : TaskParts → Atom → List ℕ
atom_text task a = call_text task (predicate_name task a.predicate) a.objects

abbrev pub term_text : TaskParts → Term → List ℕ
term_text task t = call_text task (function_name task t.function) t.objects

abbrev pub step_text : TaskParts → Step → List ℕ
step_text task s = call_text task (action_name task s.action) s.objects
