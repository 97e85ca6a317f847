-- A refusal changes nothing.
use Rattle.std.proofs.Common.{◌≡◌, ℕ, inl, inr, List}
use Rattle.np_io.specs.Seen.{SeenShelf}
use Rattle.np_lex.specs.Tokens.{Lexeme}
use Rattle.np_syntax.specs.Domains.{IsDomain, domain_text}
use Rattle.np_problem.specs.ProblemText.{IsProblem}
use Rattle.np_problem.specs.Problems.{problem_text}
use Rattle.np_answers.specs.declared.answer.File.{File}
use Rattle.np_answers.specs.declared.answer.File.TheVariants as file
use Rattle.np_answers.specs.declared.answer.refusal.Refusal.{Refusal}
use Rattle.np_answers.specs.declared.answer.refusal.Refusal.TheVariants.{TooLong, Typing}
use Rattle.np_answers.specs.declared.answer.Answer.TheVariants.{Refused}
use Rattle.np_answers.specs.Words.{Inputs, Command, solving, checking, running, listing}
use Rattle.np_planner.specs.TaskFiles.{IsWithoutValue, IsIllTyped, IsWithoutTask, IsWithoutFlat}
use Rattle.np_planner.specs.RightAnswers.{IsRightTo}

module _ (old new : SeenShelf) where
  of_value : {A : Type 0} (IsValue : A → Type 0) (spelling : A → List Lexeme) (file : File) (name : List ℕ) (r : Refusal) → IsWithoutValue IsValue spelling file name old new (Refused r) → new ≡ old
  of_value IsValue spelling file name (TooLong g) is = is.1
  of_value IsValue spelling file name r is = is.0

  of_typing : (inputs : Inputs) (r : Refusal) → IsIllTyped inputs old new (Refused r) → new ≡ old
  of_typing inputs (Typing source place why) is = is.0
  of_typing inputs r is = absurd is

  of_task : (inputs : Inputs) (r : Refusal) → IsWithoutTask inputs old new (Refused r) → new ≡ old
  of_task inputs r (inl is) = of_value IsDomain domain_text file.Domain inputs.domain r is
  of_task inputs r (inr (inl is)) = of_value IsProblem problem_text file.Problem inputs.problem r is.1
  of_task inputs r (inr (inr is)) = of_typing inputs r is

  of_flat : (inputs : Inputs) (r : Refusal) → IsWithoutFlat inputs old new (Refused r) → new ≡ old
  of_flat inputs r (inl is) = of_task inputs r is
  of_flat inputs r (inr is) = is.0

  pub untouched : (command : Command) (r : Refusal) → IsRightTo command old new (Refused r) → new ≡ old
  untouched (solving command) r (inl is) = of_flat command.inputs r is
  untouched (solving command) r (inr is) = absurd is
  untouched (checking command) r (inl is) = of_flat command.inputs r is
  untouched (checking command) r (inr (inl is)) = is.of_flat.0
  untouched (checking command) r (inr (inr (inl is))) = is.of_flat.without.0
  untouched (checking command) r (inr (inr (inr is))) = absurd is
  untouched (running command) r (inl is) = of_task command.inputs r is
  untouched (running command) r (inr (inl is)) = is.of_task.0
  untouched (running command) r (inr (inr is)) = is.0
  untouched (listing inputs) r (inl is) = of_flat inputs r is
  untouched (listing inputs) r (inr is) = is.0
