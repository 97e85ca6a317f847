-- What the pair of files of a command holds: a task, and its flat task, or why it has none.
use Rattle.std.specs.Prelude.{◌≡◌, ℕ, ◌^◌, ◌⊎◌, List}
use Rattle.np_io.specs.Seen.{SeenShelf}
use Rattle.np_io.specs.Files.{IsLonger}
use Rattle.np_lex.specs.Tokens.{Lexeme, items_of}
use Rattle.np_model.specs.declared.task.TaskParts.{TaskParts}
use Rattle.np_model.specs.Tasks.{IsTask}
use Rattle.np_syntax.specs.declared.domain.Domain.{Domain}
use Rattle.np_syntax.specs.Domains.{IsDomain, domain_text, domain_marks, IsRead as IsReadDomain}
use Rattle.np_words.specs.Texts.{IsSpelled, KeepsPlaces}
use Rattle.np_words.specs.Wide.{IsSyntaxFault, IsWideFault}
use Rattle.np_read.specs.Marks.{Mark}
use Rattle.np_problem.specs.declared.problem.Problem.{Problem}
use Rattle.np_problem.specs.ProblemText.{IsProblem}
use Rattle.np_problem.specs.Problems.{problem_text, problem_marks, IsRead as IsReadProblem}
use Rattle.np_names.specs.declared.fault.TypeFault.{TypeFault}
use Rattle.np_names.specs.declared.fault.TypeFault.TheVariants.{At}
use Rattle.np_typing.specs.TaskOf.{task_of}
use Rattle.np_typing.specs.Typing.{IsWellFormed, IsFirstFault}
use Rattle.np_flat.specs.declared.parts.Parts.{Parts}
use Rattle.np_scale.specs.Scaling.{IsFlatTaskOf}
use Rattle.np_commands.specs.FlatTasks.{IsNotFlat}
use Rattle.np_answers.specs.declared.answer.File.{File}
use Rattle.np_answers.specs.declared.answer.File.TheVariants as file
use Rattle.np_answers.specs.declared.answer.refusal.Refusal.{Refusal}
use Rattle.np_answers.specs.declared.answer.refusal.Refusal.TheVariants.{TooLong, Syntax, NumberWide, Typing}
use Rattle.np_answers.specs.declared.answer.Answer.{Answer}
use Rattle.np_answers.specs.declared.answer.Answer.TheVariants.{CannotRead, Refused, OutOfMemory}
use Rattle.np_answers.specs.Words.{Inputs}
use Rattle.np_planner.specs.Shelves.{IsRead, ReadFailed}

-- ---- one file

module _ {A : Type 0} (IsValue : A → Type 0) (spelling : A → List Lexeme) where
  -- the first fault of a text of the file, or a number of too many digits that is before any
  abbrev pub IsFaultOf : File → List ℕ → Refusal → Type 0
  IsFaultOf file bytes (Syntax f place) = (f ≡ file) × IsSyntaxFault IsValue spelling (items_of bytes) place
  IsFaultOf file bytes (NumberWide f place) = (f ≡ file) × IsWideFault IsValue spelling (items_of bytes) place
  IsFaultOf file bytes refusal = ⊥

  -- the bytes spell no value, and this is why
  pub record IsUnspelled (file : File) (bytes : List ℕ) (refusal : Refusal) : Type 0 where
    pub none : (a : A) → IsSpelled IsValue spelling bytes a → ⊥
    pub fault : IsFaultOf file bytes refusal

  -- the file could be read, and its bytes spell no value
  pub record HoldsNone (file : File) (name : List ℕ) (shelf : SeenShelf) (refusal : Refusal) : Type 0 where
    pub bytes : List ℕ
    pub read : IsRead shelf name bytes
    pub unspelled : IsUnspelled file bytes refusal

  -- an answer where a file gives no value: it can't be read, or is too long, or spells none
  abbrev pub IsWithoutValue : File → List ℕ → SeenShelf → SeenShelf → Answer → Type 0
  IsWithoutValue file name old new (CannotRead f) = (f ≡ file) × ReadFailed name old new
  IsWithoutValue file name old new (Refused (TooLong f)) = (f ≡ file) × (new ≡ old) × IsLonger old.files name (2 ^ 24)
  IsWithoutValue file name old new (Refused refusal) = (new ≡ old) × HoldsNone file name old refusal
  IsWithoutValue file name old new OutOfMemory = new ≡ old
  IsWithoutValue file name old new answer = ⊥

  -- the file spells this value, and each place that it keeps is that of its token; of the bytes of a file one value is read
  pub record HoldsValue (marks : A → List Mark) (Reads : List ℕ → A → Type 0) (name : List ℕ) (shelf : SeenShelf) (a : A) : Type 0 where
    pub bytes : List ℕ
    pub read : IsRead shelf name bytes
    pub spelled : IsSpelled IsValue spelling bytes a
    pub placed : KeepsPlaces marks bytes a
    pub one_value : Reads bytes a

abbrev pub HoldsDomain : List ℕ → SeenShelf → Domain → Type 0
HoldsDomain = HoldsValue IsDomain domain_text domain_marks IsReadDomain

abbrev pub HoldsProblem : List ℕ → SeenShelf → Problem → Type 0
HoldsProblem = HoldsValue IsProblem problem_text problem_marks IsReadProblem

abbrev pub IsWithoutDomain : List ℕ → SeenShelf → SeenShelf → Answer → Type 0
IsWithoutDomain = IsWithoutValue IsDomain domain_text file.Domain

abbrev pub IsWithoutProblem : List ℕ → SeenShelf → SeenShelf → Answer → Type 0
IsWithoutProblem = IsWithoutValue IsProblem problem_text file.Problem

-- ---- both files

-- the files spell this domain and this problem
pub record HoldsBoth (inputs : Inputs) (shelf : SeenShelf) (d : Domain) (p : Problem) : Type 0 where
  pub domain_held : HoldsDomain inputs.domain shelf d
  pub problem_held : HoldsProblem inputs.problem shelf p

-- and these keep every rule of typing, so that they stand for a task
pub record HoldsTask (inputs : Inputs) (shelf : SeenShelf) (d : Domain) (p : Problem) : Type 0 where
  pub both : HoldsBoth inputs shelf d p
  pub well_formed : IsWellFormed d p
  pub is_task : IsTask (task_of d p)

-- the file spells some domain
pub record HoldsSomeDomain (name : List ℕ) (shelf : SeenShelf) : Type 0 where
  pub domain : Domain
  pub domain_held : HoldsDomain name shelf domain

-- the files spell a domain and a problem, whose first fault of typing is this one
pub record HoldsFault (inputs : Inputs) (shelf : SeenShelf) (fault : TypeFault) : Type 0 where
  pub domain : Domain
  pub problem : Problem
  pub both : HoldsBoth inputs shelf domain problem
  pub first : IsFirstFault domain problem fault

-- an answer where both files spell what they should, but break a rule of typing
abbrev pub IsIllTyped : Inputs → SeenShelf → SeenShelf → Answer → Type 0
IsIllTyped inputs old new (Refused (Typing source place why)) = (new ≡ old) × HoldsFault inputs old (At source place why)
IsIllTyped inputs old new OutOfMemory = new ≡ old
IsIllTyped inputs old new answer = ⊥

-- an answer where the problem, which is read after the domain, gives no task
abbrev pub IsWithoutSecond : Inputs → SeenShelf → SeenShelf → Answer → Type 0
IsWithoutSecond inputs old new answer = HoldsSomeDomain inputs.domain old × IsWithoutProblem inputs.problem old new answer

-- AN ANSWER THAT COMES BEFORE THERE IS A TASK: the domain is at fault, which is read first, then the problem, then both together
abbrev pub IsWithoutTask : Inputs → SeenShelf → SeenShelf → Answer → Type 0
IsWithoutTask inputs old new answer =
    IsWithoutDomain inputs.domain old new answer ⊎ (IsWithoutSecond inputs old new answer ⊎ IsIllTyped inputs old new answer)

-- ---- the task, and its flat task

-- the files stand for a task of which this holds
pub record HoldsTaskFor (inputs : Inputs) (shelf : SeenShelf) (OfTask : TaskParts → Type 0) : Type 0 where
  pub domain : Domain
  pub problem : Problem
  pub pair : HoldsTask inputs shelf domain problem
  pub of_task : OfTask (task_of domain problem)

-- the files stand for a task that has a flat task, and this holds of both
pub record HoldsFlatFor (inputs : Inputs) (shelf : SeenShelf) (OfFlat : TaskParts → Parts → Type 0) : Type 0 where
  pub domain : Domain
  pub problem : Problem
  pub pair : HoldsTask inputs shelf domain problem
  pub flat : Parts
  pub is_flat : IsFlatTaskOf (task_of domain problem) flat
  pub of_flat : OfFlat (task_of domain problem) flat

-- an answer where the files stand for a task that has no flat task
abbrev pub IsTaskRefused : Inputs → SeenShelf → SeenShelf → Answer → Type 0
IsTaskRefused inputs old new answer = (new ≡ old) × HoldsTaskFor inputs old (λ task. IsNotFlat task answer)

-- AN ANSWER THAT COMES BEFORE THERE IS A FLAT TASK: there is no task, or else the task has no flat task
abbrev pub IsWithoutFlat : Inputs → SeenShelf → SeenShelf → Answer → Type 0
IsWithoutFlat inputs old new answer = IsWithoutTask inputs old new answer ⊎ IsTaskRefused inputs old new answer
