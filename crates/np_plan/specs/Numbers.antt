-- How actions and objects are found by name.
use Rattle.std.specs.Prelude.{◌≡◌, ℕ, if◌then◌else◌, List, [], ◌∷◌, map, Option, None, Some, option_and_then}
use Rattle.std.specs.Borrow.{Bor}
use Rattle.std.specs.HashMap.{HashMap, get}
use Rattle.std.specs.List.{position_from}
use Rattle.std.specs.Option.{option_map}
use Rattle.std.specs.Str.{bytes_eq}
use Rattle.np_model.specs.declared.task.Step.{Step}
use Rattle.np_model.specs.declared.task.TaskParts.{TaskParts}
use Rattle.np_model.specs.Steps.{is_step}
use Rattle.np_words.specs.declared.word.Word.{Word}
use Rattle.np_plan.specs.declared.plan.PlanLine.{PlanLine}

-- the number of the first item of this name, counted from n
abbrev pub number_from : ℕ → List (List ℕ) → List ℕ → Option ℕ
number_from n names name = position_from (bytes_eq name) n names

-- the map has the number of each name, counted from n
abbrev pub HasNumbersFrom : {S : Type 0} → ℕ → HashMap (Bor (List ℕ)) ℕ S → List (List ℕ) → Type 0
HasNumbersFrom n map names = (q : Bor (List ℕ)) → get (λ x y. bytes_eq x.now y.now) map q ≡ number_from n names q.now

abbrev pub HasNumbers : {S : Type 0} → HashMap (Bor (List ℕ)) ℕ S → List (List ℕ) → Type 0
HasNumbers map names = HasNumbersFrom 0 map names

-- the numbers of words, where each is a name
abbrev pub numbers_of : List (List ℕ) → List Word → Option (List ℕ)
numbers_of names [] = Some []
numbers_of names (w ∷ ws) = option_and_then (λ n. option_map (λ ns. n ∷ ns) (numbers_of names ws)) (number_from 0 names w.text)

-- this step, where it is one of the task
abbrev pub if_step : TaskParts → Step → Option Step
if_step task step = if is_step task step then Some step else None

-- the step that a line names
abbrev pub step_of : TaskParts → PlanLine → Option Step
step_of task l =
    option_and_then (λ action. option_and_then (λ objects. if_step task (record { action = action; objects = objects })) (numbers_of (map (λ o. o.name) task.objects) l.objects))
    (number_from 0 (map (λ a. a.name) task.actions) l.action.text)
