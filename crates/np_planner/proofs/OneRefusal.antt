-- A shelf that tells what it holds gives a command one reason at most to refuse, and where there is one, no other answer is right, unless a
-- read failed or memory ran out.
use Rattle.std.proofs.Common.{◌≡◌, ℕ, ◌⊎◌, ◌^◌, inl, inr, List, Option, Some, None, refl, sym, ap, subst, ◌∙◌}
use Rattle.std.proofs.lemmas.Option.{same_Some}
use Rattle.np_io.specs.Seen.{SeenShelf}
use Rattle.np_io.specs.Files.{Files}
use Rattle.np_io.specs.Counts.{Rose}
use Rattle.np_lex.specs.declared.token.Place.{Place}
use Rattle.np_lex.specs.Tokens.{Lexeme, items_of}
use Rattle.np_model.specs.declared.task.TaskParts.{TaskParts}
use Rattle.np_syntax.specs.declared.domain.Domain.{Domain}
use Rattle.np_syntax.specs.Domains.{IsDomain, domain_text}
use Rattle.np_problem.specs.declared.problem.Problem.{Problem}
use Rattle.np_problem.specs.ProblemText.{IsProblem}
use Rattle.np_problem.specs.Problems.{problem_text}
use Rattle.np_names.specs.declared.fault.Source.{Source}
use Rattle.np_names.specs.declared.fault.TypeWhy.{TypeWhy}
use Rattle.np_names.specs.declared.fault.TypeFault.{TypeFault}
use Rattle.np_names.specs.declared.fault.TypeFault.TheVariants.{At}
use Rattle.np_names.specs.Faults.{first_of}
use Rattle.np_typing.specs.Rules.{all_faults}
use Rattle.np_typing.specs.TaskOf.{task_of}
use Rattle.np_answers.specs.declared.answer.File.{File}
use Rattle.np_answers.specs.declared.answer.File.TheVariants as file
use Rattle.np_answers.specs.declared.answer.refusal.Refusal.{Refusal}
use Rattle.np_answers.specs.declared.answer.refusal.Refusal.TheVariants.{TooLong, Syntax, NumberWide, Typing}
use Rattle.np_answers.specs.declared.answer.Answer.{Answer}
use Rattle.np_answers.specs.declared.answer.Answer.TheVariants.{CannotRead, Refused, OutOfMemory}
use Rattle.np_answers.specs.Words.{Inputs}
use Rattle.np_answers.specs.Texts.{status_of}
use Rattle.np_commands.specs.FlatTasks.{IsNotFlat, IsTaskReason}
use Rattle.np_commands.specs.Plans.{IsPlanReason}
use Rattle.np_commands.specs.Checking.{IsCertificateReason}
use Rattle.np_commands.proofs.OneFault.{one_wide, one_first, not_wide}
use Rattle.np_commands.proofs.OneReason.{one_task_reason, one_certificate_reason, one_plan_reason}
use Rattle.np_planner.specs.TaskFiles.{IsFaultOf, IsWithoutValue, HoldsDomain, HoldsProblem, IsWithoutDomain, IsWithoutProblem, HoldsFault, IsIllTyped, IsWithoutTask, IsWithoutFlat}
use Rattle.np_planner.specs.GivenFiles.{IsWithoutCertificate, IsWithoutPlan}
use Rattle.np_planner.proofs.Unrefused.{one_content, not_longer, value_not_refused, same_domain, same_problem, same_task, task_not_refused, task_there}

-- an answer is the expected one, or memory ran out
abbrev pub IsIt : Answer → Answer → Type 0
IsIt expected answer = (answer ≡ expected) ⊎ (status_of answer ≡ 7)

-- before there is a task nothing but refusals, faults of reads and memory running out is answered
pub no_answer : {X : Type 0} → ⊥ ⊎ ((X × ⊥) ⊎ ⊥) → ⊥
no_answer (inl a) = a
no_answer (inr (inl a)) = a.1
no_answer (inr (inr a)) = a

-- ---- one file

module _ {A : Type 0} (IsValue : A → Type 0) (spelling : A → List Lexeme) (file : File) where
  one_text_fault : (bytes : List ℕ) (r s : Refusal) → IsFaultOf IsValue spelling file bytes r → IsFaultOf IsValue spelling file bytes s → r ≡ s
  one_text_fault bytes (Syntax f p) (Syntax g q) a b =
      let files : f ≡ g = a.0 ∙ sym b.0 in
      let places : p ≡ q = one_first IsValue spelling (items_of bytes) p q a.1.fault b.1.fault in
      λ i. Syntax (files i) (places i)
  one_text_fault bytes (Syntax f p) (NumberWide g q) a b = absurd (not_wide IsValue spelling (items_of bytes) p q a.1 b.1)
  one_text_fault bytes (NumberWide f p) (Syntax g q) a b = absurd (not_wide IsValue spelling (items_of bytes) q p b.1 a.1)
  one_text_fault bytes (NumberWide f p) (NumberWide g q) a b =
      let files : f ≡ g = a.0 ∙ sym b.0 in
      let places : p ≡ q = one_wide (items_of bytes) p q a.1.first b.1.first in
      λ i. NumberWide (files i) (places i)
  one_text_fault bytes (Syntax f p) s a b = absurd b
  one_text_fault bytes (NumberWide f p) s a b = absurd b
  one_text_fault bytes r s a b = absurd a

module _ (shelf : SeenShelf) (f : Files) (told : shelf.files ≡ Some f) where
  module _ {A : Type 0} (IsValue : A → Type 0) (spelling : A → List Lexeme) (file : File) (name : List ℕ) where
    abbrev Without : SeenShelf → Answer → Type 0
    Without new answer = IsWithoutValue IsValue spelling file name shelf new answer

    one_value_refusal : (new other : SeenShelf) (r s : Refusal) → Without new (Refused r) → Without other (Refused s) → r ≡ s
    one_value_refusal new other (TooLong g) (TooLong h) a b = ap TooLong (a.0 ∙ sym b.0)
    one_value_refusal new other (TooLong g) s a b = absurd (not_longer shelf f told name b.1.bytes (2 ^ 24) b.1.read.held b.1.read.within a.2)
    one_value_refusal new other r (TooLong h) a b = absurd (not_longer shelf f told name a.1.bytes (2 ^ 24) a.1.read.held a.1.read.within b.2)
    one_value_refusal new other r s a b =
        one_text_fault IsValue spelling file b.1.bytes r s
        (subst (λ (bytes : List ℕ). IsFaultOf IsValue spelling file bytes r) (one_content shelf f told name a.1.bytes b.1.bytes a.1.read.held b.1.read.held) a.1.unspelled.fault)
        b.1.unspelled.fault

  -- ---- both files

  -- the fault of typing that a refusal names
  record IsIll (inputs : Inputs) (r : Refusal) : Type 0 where
    source : Source
    place : Place
    why : TypeWhy
    refusal_is : r ≡ Typing source place why
    holds : HoldsFault inputs shelf (At source place why)

  is_ill : (inputs : Inputs) (new : SeenShelf) (r : Refusal) → IsIllTyped inputs shelf new (Refused r) → IsIll inputs r
  is_ill inputs new (Typing source place why) is = record { source = source; place = place; why = why; refusal_is = refl; holds = is.1 }
  is_ill inputs new r is = absurd is

  abbrev refusal_for : TypeFault → Option Refusal
  refusal_for (At source place why) = Some (Typing source place why)
  refusal_for fault = None

  module _ (inputs : Inputs) where
    no_domain_and : (new : SeenShelf) (r : Refusal) (d : Domain) → IsWithoutDomain inputs.domain shelf new (Refused r) → HoldsDomain inputs.domain shelf d → ⊥
    no_domain_and new r d without held =
        value_not_refused shelf f told IsDomain domain_text file.Domain inputs.domain held.bytes held.read.held held.read.within d held.spelled new r without

    no_problem_and : (new : SeenShelf) (r : Refusal) (p : Problem) → IsWithoutProblem inputs.problem shelf new (Refused r) → HoldsProblem inputs.problem shelf p → ⊥
    no_problem_and new r p without held =
        value_not_refused shelf f told IsProblem problem_text file.Problem inputs.problem held.bytes held.read.held held.read.within p held.spelled new r without

    one_typing : (r s : Refusal) → IsIll inputs r → IsIll inputs s → r ≡ s
    one_typing r s a b =
        let d : b.holds.domain ≡ a.holds.domain = same_domain shelf f told inputs a.holds.domain a.holds.problem a.holds.both b.holds.domain b.holds.problem b.holds.both in
        let p : b.holds.problem ≡ a.holds.problem = same_problem shelf f told inputs a.holds.domain a.holds.problem a.holds.both b.holds.domain b.holds.problem b.holds.both in
        let first : first_of (all_faults b.holds.domain b.holds.problem) ≡ first_of (all_faults a.holds.domain a.holds.problem) = λ i. first_of (all_faults (d i) (p i)) in
        let fault : At a.source a.place a.why ≡ At b.source b.place b.why = same_Some _ _ (sym a.holds.first ∙ sym first ∙ b.holds.first) in
        let refusal : Typing a.source a.place a.why ≡ Typing b.source b.place b.why = same_Some _ _ (ap refusal_for fault) in
        a.refusal_is ∙ refusal ∙ sym b.refusal_is

    one_task_refusal : (new other : SeenShelf) (r s : Refusal) → IsWithoutTask inputs shelf new (Refused r) → IsWithoutTask inputs shelf other (Refused s) → r ≡ s
    one_task_refusal new other r s (inl a) (inl b) = one_value_refusal IsDomain domain_text file.Domain inputs.domain new other r s a b
    one_task_refusal new other r s (inl a) (inr (inl b)) = absurd (no_domain_and new r b.0.domain a b.0.domain_held)
    one_task_refusal new other r s (inl a) (inr (inr b)) =
        let ill = is_ill inputs other s b in
        absurd (no_domain_and new r ill.holds.domain a ill.holds.both.domain_held)
    one_task_refusal new other r s (inr (inl a)) (inl b) = absurd (no_domain_and other s a.0.domain b a.0.domain_held)
    one_task_refusal new other r s (inr (inl a)) (inr (inl b)) = one_value_refusal IsProblem problem_text file.Problem inputs.problem new other r s a.1 b.1
    one_task_refusal new other r s (inr (inl a)) (inr (inr b)) =
        let ill = is_ill inputs other s b in
        absurd (no_problem_and new r ill.holds.problem a.1 ill.holds.both.problem_held)
    one_task_refusal new other r s (inr (inr a)) (inl b) =
        let ill = is_ill inputs new r a in
        absurd (no_domain_and other s ill.holds.domain b ill.holds.both.domain_held)
    one_task_refusal new other r s (inr (inr a)) (inr (inl b)) =
        let ill = is_ill inputs new r a in
        absurd (no_problem_and other s ill.holds.problem b.1 ill.holds.both.problem_held)
    one_task_refusal new other r s (inr (inr a)) (inr (inr b)) = one_typing r s (is_ill inputs new r a) (is_ill inputs other s b)

    module _ (new : SeenShelf) (domain_read : Rose (shelf.read_faults inputs.domain) (new.read_faults inputs.domain) → ⊥) (problem_read : Rose (shelf.read_faults inputs.problem) (new.read_faults inputs.problem) → ⊥) (r : Refusal) where
      task_unread : (g : File) → IsWithoutTask inputs shelf new (CannotRead g) → ⊥
      task_unread g (inl a) = domain_read a.1.rose
      task_unread g (inr (inl a)) = problem_read a.1.1.rose
      task_unread g (inr (inr a)) = a

      -- where the files stand for no task, the refusal is the answer
      pub no_task : IsWithoutTask inputs shelf shelf (Refused r) → (answer : Answer) → IsWithoutTask inputs shelf new answer → IsIt (Refused r) answer
      no_task a (Refused s) b = inl (ap Refused (sym (one_task_refusal shelf new r s a b)))
      no_task a OutOfMemory b = inr refl
      no_task a (CannotRead g) b = absurd (task_unread g b)
      no_task a answer b = absurd (no_answer b)

      no_flat_by : (task : TaskParts) → IsTaskReason task r → (answer : Answer) → IsNotFlat task answer → IsIt (Refused r) answer
      no_flat_by task a (Refused s) b = inl (ap Refused (sym (one_task_reason task r s a b)))
      no_flat_by task a OutOfMemory b = inr refl
      no_flat_by task a answer b = absurd b

      -- so too where the task has no flat task
      pub no_flat : IsWithoutFlat inputs shelf shelf (Refused r) → (answer : Answer) → IsWithoutFlat inputs shelf new answer → IsIt (Refused r) answer
      no_flat (inl a) answer (inl b) = no_task a answer b
      no_flat (inl a) answer (inr b) = absurd (task_not_refused shelf f told inputs b.1.domain b.1.problem b.1.pair shelf r a)
      no_flat (inr a) answer (inl b) = inr (task_there shelf f told inputs a.1.domain a.1.problem a.1.pair new domain_read problem_read answer b)
      no_flat (inr a) answer (inr b) =
          no_flat_by (task_of b.1.domain b.1.problem)
          (subst (λ (t : TaskParts). IsTaskReason t r) (same_task shelf f told inputs b.1.domain b.1.problem b.1.pair.both a.1.domain a.1.problem a.1.pair.both) a.1.of_task)
          answer b.1.of_task

  -- ---- the certificate and the plan

  module _ (name : List ℕ) (new : SeenShelf) (healthy : Rose (shelf.read_faults name) (new.read_faults name) → ⊥) (r : Refusal) where
    pub no_certificate : IsWithoutCertificate name shelf shelf (Refused r) → (answer : Answer) → IsWithoutCertificate name shelf new answer → IsIt (Refused r) answer
    no_certificate a (Refused s) b =
        inl (ap Refused (one_certificate_reason b.1.bytes s r b.1.of_bytes
        (subst (λ (bytes : List ℕ). IsCertificateReason bytes r) (one_content shelf f told name a.1.bytes b.1.bytes a.1.held b.1.held) a.1.of_bytes)))
    no_certificate a OutOfMemory b = inr refl
    no_certificate a (CannotRead g) b = absurd (healthy b.1.rose)
    no_certificate a answer b = absurd b

    pub no_plan : (task : TaskParts) → IsWithoutPlan task name shelf shelf (Refused r) → (answer : Answer) → IsWithoutPlan task name shelf new answer → IsIt (Refused r) answer
    no_plan task a (Refused s) b =
        inl (ap Refused (one_plan_reason task b.1.bytes s r b.1.of_bytes
        (subst (λ (bytes : List ℕ). IsPlanReason task bytes r) (one_content shelf f told name a.1.bytes b.1.bytes a.1.held b.1.held) a.1.of_bytes)))
    no_plan task a OutOfMemory b = inr refl
    no_plan task a (CannotRead g) b = absurd (healthy b.1.rose)
    no_plan task a answer b = absurd b
