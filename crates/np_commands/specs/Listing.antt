-- What `list` says of a task.
use Rattle.std.specs.Prelude.{◌≡◌, ⊤}
use Rattle.np_model.specs.declared.task.TaskParts.{TaskParts}
use Rattle.np_flat.specs.declared.parts.Parts.{Parts}
use Rattle.np_list.specs.ListText.{list_text}
use Rattle.np_answers.specs.declared.answer.Answer.{Answer}
use Rattle.np_answers.specs.declared.answer.Answer.TheVariants.{Listed, OutOfMemory}

-- an answer of `list` to a task and its flat task: the text of the flat task
abbrev pub IsListed : TaskParts → Parts → Answer → Type 0
IsListed task flat (Listed text) = text ≡ list_text task flat
IsListed task flat OutOfMemory = ⊤
IsListed task flat answer = ⊥
