-- The bindings of actions: each list of objects that fit the parameters, one for each. Their order is this project's own.
use Rattle.std.specs.Prelude.{ℕ, suc, ◌+◌, ◌*◌, if◌then◌else◌, List, [], ◌∷◌, ◌++◌, map, length}
use Rattle.std.specs.List.{flat_map}
use Rattle.np_model.specs.declared.task.TypeName.{TypeName}
use Rattle.np_model.specs.declared.task.Object.{Object}
use Rattle.np_model.specs.declared.task.Action.{Action}
use Rattle.np_model.specs.declared.task.Step.{Step}
use Rattle.np_model.specs.declared.task.TaskParts.{TaskParts}
use Rattle.np_model.specs.Types.{is_under}

-- the objects that fit a parameter of a type, by number, where the first of these objects has the number k
abbrev pub objects_from : List TypeName → ℕ → ℕ → List Object → List ℕ
objects_from types wanted k [] = []
objects_from types wanted k (o ∷ os) =
    if is_under types o.of wanted then k ∷ objects_from types wanted (suc k) os else objects_from types wanted (suc k) os

-- the objects that fit a parameter of a type, in their order
abbrev pub fitting_objects : TaskParts → ℕ → List ℕ
fitting_objects task wanted = objects_from task.types wanted 0 task.objects

-- the lists of objects that fit parameters of these types, in order of objects, the first parameter slowest
abbrev pub bindings : TaskParts → List ℕ → List (List ℕ)
bindings task [] = [] ∷ []
bindings task (wanted ∷ types) = flat_map (λ o. map (λ os. o ∷ os) (bindings task types)) (fitting_objects task wanted)

-- the steps of an action of this number, each with the action
abbrev pub steps_of_action : TaskParts → ℕ → Action → List (Step × Action)
steps_of_action task k action = map (λ objects. (record { action = k; objects = objects }, action)) (bindings task action.parameters)

-- the steps of actions in their order, the first of which has this number
abbrev pub steps_from : TaskParts → ℕ → List Action → List (Step × Action)
steps_from task k [] = []
steps_from task k (action ∷ actions) = steps_of_action task k action ++ steps_from task (suc k) actions

-- the number of bindings of parameters of these types: the product of the numbers of objects that fit each
abbrev pub binding_count : TaskParts → List ℕ → ℕ
binding_count task [] = 1
binding_count task (wanted ∷ types) = length (fitting_objects task wanted) * binding_count task types

-- the number of bindings of actions together
abbrev pub binding_counts : TaskParts → List Action → ℕ
binding_counts task [] = 0
binding_counts task (action ∷ actions) = binding_count task action.parameters + binding_counts task actions
