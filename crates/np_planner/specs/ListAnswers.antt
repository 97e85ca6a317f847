-- Which answers of `list` are right.
use Rattle.std.specs.Prelude.{◌≡◌, ℕ, List}
use Rattle.np_io.specs.Seen.{SeenShelf}
use Rattle.np_list.specs.ListText.{list_text}
use Rattle.np_answers.specs.declared.answer.Answer.{Answer}
use Rattle.np_answers.specs.Words.{Inputs}
use Rattle.np_commands.specs.Listing.{IsListed}
use Rattle.np_planner.specs.TaskFiles.{HoldsFlatFor}

-- the files stand for a task, and the text is that of its flat task
abbrev pub IsRightList : Inputs → List ℕ → SeenShelf → Type 0
IsRightList inputs text shelf = HoldsFlatFor inputs shelf (λ task flat. text ≡ list_text task flat)

-- an answer of `list` to a task and its flat task; it changes no file
abbrev pub IsListAnswer : Inputs → SeenShelf → SeenShelf → Answer → Type 0
IsListAnswer inputs old new answer = (new ≡ old) × HoldsFlatFor inputs old (λ task flat. IsListed task flat answer)
