-- Which answers are right, by the words, and by what the shelf was before and is afterwards.
use Rattle.std.specs.Prelude.{◌≡◌, Option, Some, None, ◌⊎◌}
use Rattle.np_io.specs.Seen.{SeenShelf}
use Rattle.np_answers.specs.declared.answer.Answer.{Answer}
use Rattle.np_answers.specs.declared.answer.Answer.TheVariants.{Usage}
use Rattle.np_answers.specs.Words.{Command, solving, checking, running, listing}
use Rattle.np_planner.specs.TaskFiles.{IsWithoutTask, IsWithoutFlat}
use Rattle.np_planner.specs.SolveAnswers.{IsSolveAnswer}
use Rattle.np_planner.specs.CheckAnswers.{IsCheckWithoutCertificate, IsCheckWithoutPlan, IsCheckAnswer}
use Rattle.np_planner.specs.RunAnswers.{IsRunWithoutPlan, IsRunAnswer}
use Rattle.np_planner.specs.ListAnswers.{IsListAnswer}

-- whether an answer to a command is right: in each, the first cause in the order of the words
abbrev pub IsRightTo : Command → SeenShelf → SeenShelf → Answer → Type 0
IsRightTo (solving solve) old new answer = IsWithoutFlat solve.inputs old new answer ⊎ IsSolveAnswer solve old new answer
IsRightTo (checking check) old new answer =
    IsWithoutFlat check.inputs old new answer ⊎ (IsCheckWithoutCertificate check old new answer ⊎ (IsCheckWithoutPlan check old new answer ⊎ IsCheckAnswer check old new answer))
IsRightTo (running run) old new answer = IsWithoutTask run.inputs old new answer ⊎ (IsRunWithoutPlan run old new answer ⊎ IsRunAnswer run old new answer)
IsRightTo (listing inputs) old new answer = IsWithoutFlat inputs old new answer ⊎ IsListAnswer inputs old new answer

-- whether an answer to words is right: usage exactly where they fit no command, and then nothing was done
abbrev pub IsRight : Option Command → SeenShelf → SeenShelf → Answer → Type 0
IsRight (Some command) old new answer = IsRightTo command old new answer
IsRight None old new Usage = new ≡ old
IsRight None old new answer = ⊥
