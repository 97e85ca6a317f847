-- That an answer comes wherever the files make it right.
use Rattle.std.specs.Prelude.{◌≡◌, ℕ, ⊤, ◌⊎◌, Some}
use Rattle.np_io.specs.Files.{Files}
use Rattle.np_answers.specs.declared.answer.Answer.{Answer}
use Rattle.np_answers.specs.declared.answer.Answer.TheVariants.{Refused, Checked, Ran, Listed}
use Rattle.np_answers.specs.Words.{Command}
use Rattle.np_answers.specs.Texts.{status_of}
use Rattle.np_planner.specs.RightAnswers.{IsRightTo}
use Rattle.np_planner.specs.Promises.{Call, Says, HadNoFault}

-- the answers that the files alone decide: the refusals of all commands, and what `check`, `run` and `list` answer. Which of several true
-- answers `solve` gives is up to its search
abbrev pub IsOfFiles : Answer → Type 0
IsOfFiles (Refused refusal) = ⊤
IsOfFiles (Checked answer) = ⊤
IsOfFiles (Ran end) = ⊤
IsOfFiles (Listed text) = ⊤
IsOfFiles answer = ⊥

-- the files, which the shelf tells, make this the right answer to the command
pub record HasCause (call : Call) (command : Command) (answer : Answer) : Type 0 where
  pub of_files : IsOfFiles answer
  pub files : Files
  pub told : call.before.files ≡ Some files
  pub right : IsRightTo command call.before call.before answer

-- EXACTNESS. Where the cause of an answer is there and nothing fails in the call, the answer comes, or memory runs out. That it comes only there
-- is said of every status
abbrev pub IsExact : Call → ℕ → Type 0
IsExact call status = (command : Command) (answer : Answer) → call.command ≡ Some command → HasCause call command answer → HadNoFault call command
    → ((status ≡ status_of answer) × Says call answer) ⊎ (status ≡ 7)
