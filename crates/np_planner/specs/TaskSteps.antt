-- SCAFFOLDING. What the steps come to by which the pair of files is read.
use Rattle.std.specs.Prelude.{◌≡◌, ℕ, ⊤, List, Result, Ok, Err}
use Rattle.np_io.specs.Seen.{SeenShelf}
use Rattle.np_lex.specs.Tokens.{Lexeme}
use Rattle.np_read.specs.Marks.{Mark}
use Rattle.np_model.specs.declared.task.TaskParts.{TaskParts}
use Rattle.np_model.specs.Tasks.{IsTask}
use Rattle.np_words.specs.Texts.{IsSpelled, KeepsPlaces}
use Rattle.np_syntax.specs.declared.domain.Domain.{Domain}
use Rattle.np_problem.specs.declared.problem.Problem.{Problem}
use Rattle.np_names.specs.declared.fault.TypeFault.TheVariants.{At}
use Rattle.np_typing.specs.TaskOf.{task_of}
use Rattle.np_typing.specs.Typing.{IsWellFormed, IsFirstFault}
use Rattle.np_words.specs.declared.fault.ReadFault.{ReadFault}
use Rattle.np_words.specs.declared.fault.ReadFault.TheVariants as text
use Rattle.np_flat.specs.declared.parts.Parts.{Parts}
use Rattle.np_scale.specs.Scaling.{IsFlatTaskOf}
use Rattle.np_answers.specs.declared.answer.File.{File}
use Rattle.np_answers.specs.declared.answer.refusal.Refusal.TheVariants.{Syntax, NumberWide, Typing}
use Rattle.np_answers.specs.declared.answer.Answer.{Answer}
use Rattle.np_answers.specs.declared.answer.Answer.TheVariants.{Refused, OutOfMemory}
use Rattle.np_answers.specs.Words.{Inputs}
use Rattle.np_planner.specs.declared.task_files.Pair.{Pair}
use Rattle.np_planner.specs.TaskFiles.{IsUnspelled, IsWithoutValue, HoldsValue, HoldsBoth, HoldsTask, IsWithoutTask, IsWithoutFlat}

-- the answer where the text of a file has this fault
abbrev pub unspelled : File → ReadFault → Answer
unspelled file (text.At place) = Refused (Syntax file place)
unspelled file (text.NumberWide place) = Refused (NumberWide file place)
unspelled file text.Memory = OutOfMemory

-- the answer where bytes spell no value
abbrev pub IsNotSpelled : {A : Type 0} → (A → Type 0) → (A → List Lexeme) → File → List ℕ → Answer → Type 0
IsNotSpelled IsValue spelling file bytes (Refused refusal) = IsUnspelled IsValue spelling file bytes refusal
IsNotSpelled IsValue spelling file bytes OutOfMemory = ⊤
IsNotSpelled IsValue spelling file bytes answer = ⊥

-- what bytes are read as
abbrev pub Reads : {A : Type 0} → (A → Type 0) → (A → List Lexeme) → (A → List Mark) → (List ℕ → A → Type 0) → File → List ℕ → Result A Answer → Type 0
Reads IsValue spelling marks IsReadAs file bytes (Ok a) = IsSpelled IsValue spelling bytes a × KeepsPlaces marks bytes a × IsReadAs bytes a
Reads IsValue spelling marks IsReadAs file bytes (Err answer) = IsNotSpelled IsValue spelling file bytes answer

-- what is found under a name
abbrev pub Finds : {A : Type 0} → (A → Type 0) → (A → List Lexeme) → (A → List Mark) → (List ℕ → A → Type 0) → File → List ℕ → SeenShelf → SeenShelf → Result A Answer → Type 0
Finds IsValue spelling marks IsReadAs file name old new (Ok a) = (new ≡ old) × HoldsValue IsValue spelling marks IsReadAs name old a
Finds IsValue spelling marks IsReadAs file name old new (Err answer) = IsWithoutValue IsValue spelling file name old new answer

-- what is found under the two names
abbrev pub FindsBoth : Inputs → SeenShelf → SeenShelf → Result (Domain × Problem) Answer → Type 0
FindsBoth inputs old new (Ok pair) = (new ≡ old) × HoldsBoth inputs old pair.0 pair.1
FindsBoth inputs old new (Err answer) = IsWithoutTask inputs old new answer

-- the answer where a domain and a problem break a rule of typing
abbrev pub IsNotTyped : Domain → Problem → Answer → Type 0
IsNotTyped d p (Refused (Typing source place why)) = IsFirstFault d p (At source place why)
IsNotTyped d p OutOfMemory = ⊤
IsNotTyped d p answer = ⊥

-- a domain and a problem keep every rule of typing, and this is their task
pub record IsTaskOf (d : Domain) (p : Problem) (task : TaskParts) : Type 0 where
  pub well_formed : IsWellFormed d p
  pub task_is : task ≡ task_of d p
  pub is_task : IsTask task

-- what a domain and a problem stand for
abbrev pub Types : Domain → Problem → Result TaskParts Answer → Type 0
Types d p (Ok task) = IsTaskOf d p task
Types d p (Err answer) = IsNotTyped d p answer

-- the files stand for this task
pub record HoldsTaskAs (inputs : Inputs) (shelf : SeenShelf) (task : TaskParts) : Type 0 where
  pub domain : Domain
  pub problem : Problem
  pub pair : HoldsTask inputs shelf domain problem
  pub task_is : task ≡ task_of domain problem

-- what the files stand for
abbrev pub FindsTask : Inputs → SeenShelf → SeenShelf → Result TaskParts Answer → Type 0
FindsTask inputs old new (Ok task) = (new ≡ old) × HoldsTaskAs inputs old task
FindsTask inputs old new (Err answer) = IsWithoutTask inputs old new answer

-- the files stand for this task, and this is its flat task
pub record HoldsFlatAs (inputs : Inputs) (shelf : SeenShelf) (task : TaskParts) (flat : Parts) : Type 0 where
  pub held : HoldsTaskAs inputs shelf task
  pub is_flat : IsFlatTaskOf task flat

-- what the files stand for, and its flat task
abbrev pub FindsFlat : Inputs → SeenShelf → SeenShelf → Result Pair Answer → Type 0
FindsFlat inputs old new (Ok pair) = (new ≡ old) × HoldsFlatAs inputs old pair.task pair.flat
FindsFlat inputs old new (Err answer) = IsWithoutFlat inputs old new answer
