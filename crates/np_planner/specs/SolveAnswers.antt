-- Which answers of `solve` are right, and what it leaves on the shelf.
use Rattle.std.specs.Prelude.{◌≡◌, ℕ, ◌⊎◌, List}
use Rattle.np_io.specs.Seen.{SeenShelf}
use Rattle.np_io.specs.Files.{Files, Changes, HasPut, HasPutPrefix}
use Rattle.np_syntax.specs.declared.domain.Domain.{Domain}
use Rattle.np_problem.specs.declared.problem.Problem.{Problem}
use Rattle.np_typing.specs.TaskOf.{task_of}
use Rattle.np_flat.specs.declared.parts.Parts.{Parts}
use Rattle.np_scale.specs.Scaling.{IsFlatTaskOf}
use Rattle.np_cert.specs.declared.certificate.Limit.TheVariants.{Number}
use Rattle.np_evidence.specs.Certified.{IsCertified}
use Rattle.np_answers.specs.declared.answer.File.{File}
use Rattle.np_answers.specs.declared.answer.File.TheVariants as file
use Rattle.np_answers.specs.declared.answer.solve.SolveAnswer.{SolveAnswer}
use Rattle.np_answers.specs.declared.answer.solve.SolveAnswer.TheVariants.{Optimal}
use Rattle.np_answers.specs.declared.answer.Answer.{Answer}
use Rattle.np_answers.specs.declared.answer.Answer.TheVariants.{Solved, CannotWrite, OutOfMemory}
use Rattle.np_answers.specs.Words.{Solve}
use Rattle.np_commands.specs.Solutions.{IsCheapest}
use Rattle.np_commands.specs.Solving.{claim_of, IsTrueOfTask}
use Rattle.np_planner.specs.Shelves.{WriteFailed, IsFaultless, HasPutBoth, HasPutFirst}
use Rattle.np_planner.specs.TaskFiles.{HoldsTask}

-- what is put with an answer: the certificate, and the plan, where one was found
abbrev pub HasPutFor : Solve → List ℕ → List ℕ → SolveAnswer → Files → Files → Type 0
HasPutFor command certificate plan (Optimal cost) = HasPutBoth command.certificate certificate command.plan plan
HasPutFor command certificate plan answer = HasPut command.certificate certificate

-- under the names of the words is a task that has a flat task, and the answer is true of them; a certificate with the answer's claim is under
-- CERT now, and a cheapest plan under PLAN, where one was found; nothing else has changed, and nothing failed
pub record IsRightSolve (command : Solve) (answer : SolveAnswer) (old new : SeenShelf) : Type 0 where
  pub domain : Domain
  pub problem : Problem
  pub pair : HoldsTask command.inputs old domain problem
  pub flat : Parts
  pub is_flat : IsFlatTaskOf (task_of domain problem) flat
  pub certificate : List ℕ
  pub certified : IsCertified flat command.nodes (claim_of answer) certificate
  pub plan : List ℕ
  pub true_answer : IsTrueOfTask (task_of domain problem) flat command.nodes plan certified.certificate.entries answer
  pub put : Changes old.files new.files (HasPutFor command certificate plan answer)
  pub faultless : IsFaultless old new

-- the task has a cheapest plan, and the certificate that none costs less is under CERT now; nothing else was put, and nothing failed
pub record OnlyCertified (command : Solve) (old new : SeenShelf) : Type 0 where
  pub domain : Domain
  pub problem : Problem
  pub pair : HoldsTask command.inputs old domain problem
  pub flat : Parts
  pub is_flat : IsFlatTaskOf (task_of domain problem) flat
  pub plan : List ℕ
  pub cost : ℕ
  pub cheapest : IsCheapest (task_of domain problem) plan cost
  pub certificate : List ℕ
  pub certified : IsCertified flat command.nodes (Number cost) certificate
  pub put : Changes old.files new.files (HasPut command.certificate certificate)
  pub faultless : IsFaultless old new

-- the certificate of a true answer could not be written: a prefix of it may be under CERT, and nothing else was put
pub record CertificateFailed (command : Solve) (old new : SeenShelf) : Type 0 where
  pub domain : Domain
  pub problem : Problem
  pub pair : HoldsTask command.inputs old domain problem
  pub flat : Parts
  pub is_flat : IsFlatTaskOf (task_of domain problem) flat
  pub answer : SolveAnswer
  pub certificate : List ℕ
  pub certified : IsCertified flat command.nodes (claim_of answer) certificate
  pub plan : List ℕ
  pub true_answer : IsTrueOfTask (task_of domain problem) flat command.nodes plan certified.certificate.entries answer
  pub prefix : Changes old.files new.files (HasPutPrefix command.certificate certificate)
  pub failed : WriteFailed command.certificate old new

-- the task has a cheapest plan, and its certificate is under CERT now; but the write of the plan's lines failed, and a prefix of them may be
-- under PLAN
pub record PlanFailed (command : Solve) (old new : SeenShelf) : Type 0 where
  pub domain : Domain
  pub problem : Problem
  pub pair : HoldsTask command.inputs old domain problem
  pub flat : Parts
  pub is_flat : IsFlatTaskOf (task_of domain problem) flat
  pub plan : List ℕ
  pub cost : ℕ
  pub cheapest : IsCheapest (task_of domain problem) plan cost
  pub certificate : List ℕ
  pub certified : IsCertified flat command.nodes (Number cost) certificate
  pub prefix : Changes old.files new.files (HasPutFirst command.certificate certificate command.plan plan)
  pub failed : WriteFailed command.plan old new

-- the write of this file failed
abbrev pub WasUnwritten : Solve → File → SeenShelf → SeenShelf → Type 0
WasUnwritten command file.Certificate old new = CertificateFailed command old new
WasUnwritten command file.Plan old new = PlanFailed command old new
WasUnwritten command name old new = ⊥

-- an answer of `solve` to a task and its flat task
abbrev pub IsSolveAnswer : Solve → SeenShelf → SeenShelf → Answer → Type 0
IsSolveAnswer solve old new (Solved answer) = IsRightSolve solve answer old new
IsSolveAnswer solve old new (CannotWrite file) = WasUnwritten solve file old new
IsSolveAnswer solve old new OutOfMemory = (new ≡ old) ⊎ OnlyCertified solve old new
IsSolveAnswer solve old new answer = ⊥
