-- What `solve` says of a task.
use Rattle.std.specs.Prelude.{◌≡◌, ℕ, List}
use Rattle.np_model.specs.declared.task.TaskParts.{TaskParts}
use Rattle.np_model.specs.Plans.{IsUnsolvable}
use Rattle.np_flat.specs.declared.parts.Parts.{Parts}
use Rattle.np_cert.specs.declared.certificate.Entry.{Entry}
use Rattle.np_cert.specs.declared.certificate.Limit.{Limit}
use Rattle.np_cert.specs.declared.certificate.Limit.TheVariants.{Number, Absent}
use Rattle.np_evidence.specs.Certified.{IsCertified, IsSpentOn}
use Rattle.np_answers.specs.declared.answer.solve.SolveAnswer.{SolveAnswer}
use Rattle.np_answers.specs.declared.answer.solve.SolveAnswer.TheVariants.{Optimal, Unsolvable, Spent}
use Rattle.np_commands.specs.declared.solve.Work.{Work}
use Rattle.np_commands.specs.Solutions.{IsCheapest, IsSpent}

-- what the certificate claims that is put with an answer
abbrev pub claim_of : SolveAnswer → Limit
claim_of (Optimal cost) = Number cost
claim_of Unsolvable = Absent
claim_of (Spent nodes bound) = Number bound

-- the budget was spent: on the states of the task, and on those of its flat task, which the entries of the certificate tell
pub record HasSpent (task : TaskParts) (flat : Parts) (budget nodes bound : ℕ) (entries : List Entry) : Type 0 where
  pub whole_budget : nodes ≡ budget
  pub spent : IsSpent task nodes bound
  pub spent_flat : IsSpentOn flat nodes bound entries

-- what an answer says of a task, with a budget, the bytes of a plan and the entries of a certificate
abbrev pub IsTrueOfTask : TaskParts → Parts → ℕ → List ℕ → List Entry → SolveAnswer → Type 0
IsTrueOfTask task flat budget plan entries (Optimal cost) = IsCheapest task plan cost
IsTrueOfTask task flat budget plan entries Unsolvable = IsUnsolvable task
IsTrueOfTask task flat budget plan entries (Spent nodes bound) = HasSpent task flat budget nodes bound entries

-- the answer of the work on a task is true of it, and so is the certificate
pub record IsWorkOn (task : TaskParts) (flat : Parts) (nodes : ℕ) (work : Work) : Type 0 where
  pub certified : IsCertified flat nodes (claim_of work.answer) work.certificate.items
  pub true_answer : IsTrueOfTask task flat nodes work.plan.items certified.certificate.entries work.answer
