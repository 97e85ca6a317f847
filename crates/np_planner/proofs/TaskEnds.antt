-- From what the reading of the files comes to, to what their pair holds.
use Rattle.std.proofs.Common.{◌≡◌, ℕ, ◌^◌, false, inl, inr, List, Result, Ok, Err, refl, sym, ◌∙◌, subst}
use Rattle.std.specs.Prelude.{IsErrOf}
use Rattle.np_io.specs.Seen.{SeenShelf}
use Rattle.np_lex.specs.Tokens.{Lexeme, items_of}
use Rattle.np_lex.specs.declared.token.Place.{Place}
use Rattle.np_read.specs.Marks.{Mark}
use Rattle.np_model.specs.declared.task.TaskParts.{TaskParts}
use Rattle.np_model.specs.Tasks.{IsTask}
use Rattle.np_flat.specs.declared.parts.Parts.{Parts}
use Rattle.np_scale.specs.Scaling.{IsFlatTaskOf}
use Rattle.np_commands.specs.FlatTasks.{IsNotFlat}
use Rattle.np_syntax.specs.declared.domain.Domain.{Domain}
use Rattle.np_syntax.specs.Domains.{IsDomain, domain_text}
use Rattle.np_words.specs.declared.fault.ReadFault.{ReadFault}
use Rattle.np_words.specs.declared.fault.ReadFault.TheVariants as text
use Rattle.np_words.specs.Texts.{IsSpelled, is_memory}
use Rattle.np_words.specs.Wide.{IsSyntaxFault, IsWideFault}
use Rattle.np_problem.specs.declared.problem.Problem.{Problem}
use Rattle.np_answers.specs.declared.answer.File.{File}
use Rattle.np_answers.specs.declared.answer.File.TheVariants as file
use Rattle.np_answers.specs.declared.answer.refusal.Refusal.TheVariants.{TooLong, Typing}
use Rattle.np_answers.specs.declared.answer.Answer.{Answer}
use Rattle.np_answers.specs.declared.answer.Answer.TheVariants.{CannotRead, Refused, OutOfMemory}
use Rattle.np_answers.specs.Words.{Inputs}
use Rattle.np_planner.specs.Shelves.{IsRead}
use Rattle.np_planner.specs.ReadSteps.{IsNotRead}
use Rattle.np_planner.specs.TaskFiles.{IsWithoutValue, IsWithoutProblem, HoldsDomain, HoldsProblem, HoldsBoth, IsWithoutTask, HoldsTaskFor, HoldsFlatFor, IsWithoutFlat}
use Rattle.np_planner.specs.TaskSteps.{unspelled, IsNotSpelled, Reads, Finds, IsNotTyped, Types, HoldsTaskAs, FindsTask, HoldsFlatAs}

-- ---- one file

module _ {A : Type 0} (IsValue : A → Type 0) (spelling : A → List Lexeme) (marks : A → List Mark) (file : File) where
  -- the fault of a text as an answer
  pub not_spelled : (bytes : List ℕ) (r : Result A ReadFault)
      → ((place : Place) → IsErrOf r (text.At place) → IsSyntaxFault IsValue spelling (items_of bytes) place)
      → ((place : Place) → IsErrOf r (text.NumberWide place) → IsWideFault IsValue spelling (items_of bytes) place)
      → ((fault : ReadFault) → is_memory fault ≡ false → IsErrOf r fault → (a : A) → IsSpelled IsValue spelling bytes a → ⊥)
      → (fault : ReadFault) → r ≡ Err fault → IsNotSpelled IsValue spelling file bytes (unspelled file fault)
  not_spelled bytes r syntax wide refused (text.At place) e = record { none = refused (text.At place) refl e; fault = (refl, syntax place e) }
  not_spelled bytes r syntax wide refused (text.NumberWide place) e = record { none = refused (text.NumberWide place) refl e; fault = (refl, wide place e) }
  not_spelled bytes r syntax wide refused text.Memory e = tt

  module _ (name : List ℕ) (old new : SeenShelf) where
    -- its bytes can't be had
    pub without_bytes : (answer : Answer) → IsNotRead file name (2 ^ 24) old new answer → IsWithoutValue IsValue spelling file name old new answer
    without_bytes (CannotRead f) failed = failed
    without_bytes (Refused (TooLong f)) longer = longer
    without_bytes OutOfMemory same = same
    without_bytes answer unread = absurd unread

    -- its bytes spell none
    none_held : (bytes : List ℕ) → IsRead old name bytes → new ≡ old → (answer : Answer) → IsNotSpelled IsValue spelling file bytes answer → IsWithoutValue IsValue spelling file name old new answer
    none_held bytes read same (Refused (TooLong f)) is = absurd is.fault
    none_held bytes read same (Refused refusal) is = (same, record { bytes = bytes; read = read; unspelled = is })
    none_held bytes read same OutOfMemory is = same
    none_held bytes read same answer is = absurd is

    -- what they are read as is what is found
    pub found : (IsReadAs : List ℕ → A → Type 0) (bytes : List ℕ) → IsRead old name bytes → new ≡ old → (r : Result A Answer) → Reads IsValue spelling marks IsReadAs file bytes r
        → Finds IsValue spelling marks IsReadAs file name old new r
    found IsReadAs bytes read same (Ok a) (spelled, placed, one) = (same, record { bytes = bytes; read = read; spelled = spelled; placed = placed; one_value = one })
    found IsReadAs bytes read same (Err answer) is = none_held bytes read same answer is

-- ---- both files

module _ (inputs : Inputs) (old : SeenShelf) where
  -- no domain
  pub no_domain : (new : SeenShelf) (answer : Answer) → IsWithoutValue IsDomain domain_text file.Domain inputs.domain old new answer → IsWithoutTask inputs old new answer
  no_domain new answer is = inl is

  -- a domain, and what is found of the problem after it
  module _ (d : Domain) (domain_held : HoldsDomain inputs.domain old d) (between : SeenShelf) (same : between ≡ old) where
    pub no_problem : (new : SeenShelf) (answer : Answer) → IsWithoutProblem inputs.problem between new answer → IsWithoutTask inputs old new answer
    no_problem new answer is =
        inr (inl (record { domain = d; domain_held = domain_held }, subst (λ (s : SeenShelf). IsWithoutProblem inputs.problem s new answer) same is))

    pub both_held : (new : SeenShelf) → new ≡ between → (p : Problem) → HoldsProblem inputs.problem between p → (new ≡ old) × HoldsBoth inputs old d p
    both_held new later p held = (later ∙ same, record { domain_held = domain_held; problem_held = subst (λ (s : SeenShelf). HoldsProblem inputs.problem s p) same held })

  -- both, and what typing says of them
  module _ (d : Domain) (p : Problem) (both : HoldsBoth inputs old d p) (new : SeenShelf) (same : new ≡ old) where
    ill_typed : (answer : Answer) → IsNotTyped d p answer → IsWithoutTask inputs old new answer
    ill_typed (Refused (Typing source place why)) is = inr (inr (same, record { domain = d; problem = p; both = both; first = is }))
    ill_typed OutOfMemory is = inr (inr same)
    ill_typed (Refused refusal) is = absurd is
    ill_typed answer is = absurd is

    pub task_found : (r : Result TaskParts Answer) → Types d p r → FindsTask inputs old new r
    task_found (Ok task) is = (
      same,
      record {
        domain = d;
        problem = p;
        pair = record { both = both; well_formed = is.well_formed; is_task = subst IsTask is.task_is is.is_task };
        task_is = is.task_is;
      },
    )
    task_found (Err answer) is = ill_typed answer is

-- ---- the task, and its flat task

module _ (inputs : Inputs) (old : SeenShelf) (task : TaskParts) (of : HoldsTaskAs inputs old task) where
  -- what holds of the task
  pub task_for : (OfTask : TaskParts → Type 0) → OfTask task → HoldsTaskFor inputs old OfTask
  task_for OfTask is = record { domain = of.domain; problem = of.problem; pair = of.pair; of_task = subst OfTask of.task_is is }

  pub is_task : IsTask task
  is_task = subst IsTask (sym of.task_is) of.pair.is_task

module _ (inputs : Inputs) (old : SeenShelf) (task : TaskParts) (flat : Parts) (of : HoldsFlatAs inputs old task flat) where
  -- what holds of the task and its flat task
  pub flat_for : (OfFlat : TaskParts → Parts → Type 0) → OfFlat task flat → HoldsFlatFor inputs old OfFlat
  flat_for OfFlat is = record {
    domain = of.held.domain;
    problem = of.held.problem;
    pair = of.held.pair;
    flat = flat;
    is_flat = subst (λ (t : TaskParts). IsFlatTaskOf t flat) of.held.task_is of.is_flat;
    of_flat = subst (λ (t : TaskParts). OfFlat t flat) of.held.task_is is;
  }

-- the task has no flat task
pub not_flat : (inputs : Inputs) (old after : SeenShelf) (task : TaskParts) → (after ≡ old) × HoldsTaskAs inputs old task → (answer : Answer) → IsNotFlat task answer → IsWithoutFlat inputs old after answer
not_flat inputs old after task (same, of) answer is = inr (same, task_for inputs old task of (λ t. IsNotFlat t answer) is)
