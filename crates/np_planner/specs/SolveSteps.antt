-- SCAFFOLDING. What the steps of `solve` come to.
use Rattle.std.specs.Prelude.{◌≡◌, ℕ, ◌⊎◌, List}
use Rattle.np_io.specs.Seen.{SeenShelf}
use Rattle.np_io.specs.Files.{Changes, HasPut, HasPutPrefix}
use Rattle.np_answers.specs.declared.answer.File.{File}
use Rattle.np_answers.specs.declared.answer.File.TheVariants as file
use Rattle.np_answers.specs.declared.answer.solve.SolveAnswer.{SolveAnswer}
use Rattle.np_answers.specs.declared.answer.solve.SolveAnswer.TheVariants.{Optimal}
use Rattle.np_answers.specs.declared.answer.Answer.{Answer}
use Rattle.np_answers.specs.declared.answer.Answer.TheVariants.{Solved, CannotWrite, OutOfMemory}
use Rattle.np_commands.specs.declared.solve.Work.{Work}
use Rattle.np_answers.specs.Words.{Solve}
use Rattle.np_planner.specs.Shelves.{IsFaultless, WriteFailed}

-- a put under this name that went well
pub record WasPut (name bytes : List ℕ) (old new : SeenShelf) : Type 0 where
  pub there : Changes old.files new.files (HasPut name bytes)
  pub faultless : IsFaultless old new

-- a put under this name that failed
pub record WasCut (name bytes : List ℕ) (old new : SeenShelf) : Type 0 where
  pub prefix : Changes old.files new.files (HasPutPrefix name bytes)
  pub failed : WriteFailed name old new

-- the answer for a file that could not be put
abbrev pub IsNotPut : File → List ℕ → List ℕ → SeenShelf → SeenShelf → Answer → Type 0
IsNotPut file name bytes old new (CannotWrite f) = (f ≡ file) × WasCut name bytes old new
IsNotPut file name bytes old new OutOfMemory = new ≡ old
IsNotPut file name bytes old new answer = ⊥

-- what is left to do once the certificate was put: a plan that was found is put, and else nothing is done
abbrev pub Concludes : List ℕ → List ℕ → SolveAnswer → SeenShelf → SeenShelf → Answer → Type 0
Concludes name plan (Optimal cost) old new answer = ((answer ≡ Solved (Optimal cost)) × WasPut name plan old new) ⊎ IsNotPut file.Plan name plan old new answer
Concludes name plan own old new answer = (answer ≡ Solved own) × (new ≡ old)

-- the certificate was put, and then what was left was done
pub record IsConcluded (command : Solve) (work : Work) (old new : SeenShelf) (answer : Answer) : Type 0 where
  pub between : SeenShelf
  pub put : WasPut command.certificate work.certificate.items old between
  pub concludes : Concludes command.plan work.plan.items work.answer between new answer

-- first the certificate is put, and where that fails nothing else
abbrev pub Finishes : Solve → Work → SeenShelf → SeenShelf → Answer → Type 0
Finishes command work old new answer = IsNotPut file.Certificate command.certificate work.certificate.items old new answer ⊎ IsConcluded command work old new answer
