-- From what the steps of `list` come to, to what its answer says.
use Rattle.std.proofs.Common.{◌≡◌, inr}
use Rattle.np_io.specs.Seen.{SeenShelf}
use Rattle.np_model.specs.declared.task.TaskParts.{TaskParts}
use Rattle.np_flat.specs.declared.parts.Parts.{Parts}
use Rattle.np_answers.specs.declared.answer.Answer.{Answer}
use Rattle.np_answers.specs.Words.{Inputs, listing}
use Rattle.np_commands.specs.Listing.{IsListed}
use Rattle.np_planner.specs.RightAnswers.{IsRightTo}
use Rattle.np_planner.specs.TaskSteps.{HoldsFlatAs}
use Rattle.np_planner.proofs.TaskEnds.{flat_for}

pub listed : (inputs : Inputs) (old after : SeenShelf) (task : TaskParts) (flat : Parts) → (after ≡ old) × HoldsFlatAs inputs old task flat → (answer : Answer) → IsListed task flat answer → IsRightTo (listing inputs) old after answer
listed inputs old after task flat (same, of) answer is = inr (same, flat_for inputs old task flat of (λ t f. IsListed t f answer) is)
