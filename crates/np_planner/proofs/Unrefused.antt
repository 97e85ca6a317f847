-- That files which stand for a task, for its flat task, or hold a certificate or a plan aren't refused, where the shelf tells what it holds and no
-- read fails.
use Rattle.std.proofs.Common.{◌≡◌, ℕ, ◌<◌, ◌≤◌, ◌^◌, inl, inr, List, [], length, Option, Some, Result, Ok, Err, refl, sym, ap, ◌∙◌, subst, arith}
use Rattle.std.proofs.lemmas.Option.{same_Some, none-some}
use Rattle.np_io.specs.Seen.{SeenShelf}
use Rattle.np_io.specs.Files.{Files, IsHeld, IsLonger}
use Rattle.np_io.specs.Counts.{Rose}
use Rattle.np_lex.specs.Tokens.{Lexeme}
use Rattle.np_model.specs.declared.task.Step.{Step}
use Rattle.np_model.specs.declared.task.TaskParts.{TaskParts}
use Rattle.np_words.specs.Texts.{IsSpelled}
use Rattle.np_syntax.specs.declared.domain.Domain.{Domain}
use Rattle.np_syntax.specs.Domains.{IsDomain, domain_text, IsRead as IsReadDomain}
use Rattle.np_syntax.proofs.OneRead.{one_read as one_domain}
use Rattle.np_problem.specs.declared.problem.Problem.{Problem}
use Rattle.np_problem.specs.ProblemText.{IsProblem}
use Rattle.np_problem.specs.Problems.{problem_text, IsRead as IsReadProblem}
use Rattle.np_problem.proofs.OneRead.{one_read as one_problem}
use Rattle.np_names.specs.declared.fault.TypeFault.{TypeFault}
use Rattle.np_names.specs.Faults.{first_of}
use Rattle.np_typing.specs.Rules.{all_faults}
use Rattle.np_typing.specs.TaskOf.{task_of}
use Rattle.np_bind.specs.Binding.{bind_task}
use Rattle.np_flat.specs.declared.parts.Parts.{Parts}
use Rattle.np_scale.specs.Scaling.{scale_task, IsFlatTaskOf}
use Rattle.np_cert.specs.declared.certificate.Certificate.{Certificate}
use Rattle.np_cert.specs.Text.{Spells}
use Rattle.np_cert.proofs.ReadingTexts.{one_certificate}
use Rattle.np_answers.specs.declared.answer.File.{File}
use Rattle.np_answers.specs.declared.answer.File.TheVariants as file
use Rattle.np_answers.specs.declared.answer.refusal.Refusal.{Refusal}
use Rattle.np_answers.specs.declared.answer.refusal.Refusal.TheVariants.{TooLong, Syntax, NumberWide, Typing, StampOrder, UnknownStep}
use Rattle.np_answers.specs.declared.answer.Answer.{Answer}
use Rattle.np_answers.specs.declared.answer.Answer.TheVariants.{CannotRead, Refused, OutOfMemory}
use Rattle.np_answers.specs.Words.{Inputs}
use Rattle.np_answers.specs.Texts.{status_of}
use Rattle.np_commands.specs.FlatTasks.{IsNotFlat, IsTaskReason}
use Rattle.np_commands.specs.Plans.{SpellsPlan, IsPlanReason}
use Rattle.np_commands.specs.Checking.{IsCertificateReason}
use Rattle.np_planner.specs.TaskFiles.{IsUnspelled, IsWithoutValue, HoldsBoth, HoldsTask, IsIllTyped, IsWithoutTask, IsWithoutFlat}
use Rattle.np_planner.specs.GivenFiles.{HoldsCertificate, IsWithoutCertificate, HoldsPlan, IsWithoutPlan}

-- a right answer is no fault
right_is_no_fault : {A E : Type 0} (a : A) (e : E) → Ok a ≡ Err e → ⊥
right_is_no_fault a e same = absurd cc

same_right : {A E : Type 0} (a b : A) → ◌≡◌ {A = Result A E} (Ok a) (Ok b) → a ≡ b
same_right a b e = cc

-- the list without faults has no first one
no_first : (fault : TypeFault) → first_of [] ≡ Some fault → ⊥
no_first fault e = none-some fault e

module _ (shelf : SeenShelf) (f : Files) (told : shelf.files ≡ Some f) where
  -- what is under a name that is told
  pub one_content : (name one other : List ℕ) → IsHeld shelf.files name one → IsHeld shelf.files name other → one ≡ other
  one_content name one other first second =
      same_Some one other
      (sym (subst (λ (x : Option Files). IsHeld x name one) told first) ∙ subst (λ (x : Option Files). IsHeld x name other) told second)

  -- a file that is short isn't too long
  pub not_longer : (name bytes : List ℕ) (limit : ℕ) → IsHeld shelf.files name bytes → length bytes ≤ limit → IsLonger shelf.files name limit → ⊥
  not_longer name bytes limit held short longer =
      let found : (there : List ℕ) × (f name ≡ Some there) × (limit < length there) = subst (λ (x : Option Files). IsLonger x name limit) told longer in
      let same : found.0 ≡ bytes = same_Some found.0 bytes (sym found.1 ∙ subst (λ (x : Option Files). IsHeld x name bytes) told held) in
      omega (arith, short, subst (λ (b : List ℕ). limit < length b) same found.2)

  -- ---- one file

  module _ {A : Type 0} (IsValue : A → Type 0) (spelling : A → List Lexeme) (file : File) (name bytes : List ℕ) (held : IsHeld shelf.files name bytes) (short : length bytes ≤ 2 ^ 24) (a : A) (spelled : IsSpelled IsValue spelling bytes a) where
    -- bytes that spell a value aren't refused
    not_unspelled : (there : List ℕ) → IsHeld shelf.files name there → (refusal : Refusal) → IsUnspelled IsValue spelling file there refusal → ⊥
    not_unspelled there also refusal is =
        is.none a (subst (λ (b : List ℕ). IsSpelled IsValue spelling b a) (one_content name bytes there held also) spelled)

    pub value_not_refused : (new : SeenShelf) (refusal : Refusal) → IsWithoutValue IsValue spelling file name shelf new (Refused refusal) → ⊥
    value_not_refused new (TooLong g) is = not_longer name bytes (2 ^ 24) held short is.2
    value_not_refused new refusal is = not_unspelled is.1.bytes is.1.read.held refusal is.1.unspelled

    value_there : (new : SeenShelf) → (Rose (shelf.read_faults name) (new.read_faults name) → ⊥) → (answer : Answer) → IsWithoutValue IsValue spelling file name shelf new answer → status_of answer ≡ 7
    value_there new healthy (CannotRead g) is = absurd (healthy is.1.rose)
    value_there new healthy (Refused refusal) is = absurd (value_not_refused new refusal is)
    value_there new healthy OutOfMemory is = refl
    value_there new healthy answer is = absurd is

  -- ---- both files

  module _ (inputs : Inputs) (d : Domain) (p : Problem) (here : HoldsBoth inputs shelf d p) where
    -- the files hold one domain and one problem
    pub same_domain : (e : Domain) (q : Problem) → HoldsBoth inputs shelf e q → e ≡ d
    same_domain e q both =
        let same = one_content inputs.domain both.domain_held.bytes here.domain_held.bytes both.domain_held.read.held here.domain_held.read.held in
        one_domain here.domain_held.bytes e d (subst (λ (b : List ℕ). IsReadDomain b e) same both.domain_held.one_value) here.domain_held.one_value

    pub same_problem : (e : Domain) (q : Problem) → HoldsBoth inputs shelf e q → q ≡ p
    same_problem e q both =
        let same = one_content inputs.problem both.problem_held.bytes here.problem_held.bytes both.problem_held.read.held here.problem_held.read.held in
        one_problem here.problem_held.bytes q p (subst (λ (b : List ℕ). IsReadProblem b q) same both.problem_held.one_value) here.problem_held.one_value

    -- so they stand for one task
    pub same_task : (e : Domain) (q : Problem) → HoldsBoth inputs shelf e q → task_of e q ≡ task_of d p
    same_task e q both =
        let first : e ≡ d = same_domain e q both in
        let second : q ≡ p = same_problem e q both in
        λ i. task_of (first i) (second i)

    -- which has one flat task
    pub same_flat : (flat : Parts) → IsFlatTaskOf (task_of d p) flat → (e : Domain) (q : Problem) → HoldsBoth inputs shelf e q → (other : Parts) → IsFlatTaskOf (task_of e q) other → other ≡ flat
    same_flat flat is_flat e q both other is_other =
        let one : is_other.bound ≡ is_flat.bound = same_right is_other.bound is_flat.bound (sym is_other.binds ∙ ap bind_task (same_task e q both) ∙ is_flat.binds) in
        same_right other flat (sym is_other.scales ∙ ap scale_task one ∙ is_flat.scales)

  -- files that stand for a task aren't refused
  module _ (inputs : Inputs) (d : Domain) (p : Problem) (pair : HoldsTask inputs shelf d p) where
    -- they have no fault of typing
    well_typed : (e : Domain) (q : Problem) → HoldsBoth inputs shelf e q → (fault : TypeFault) → first_of (all_faults e q) ≡ Some fault → ⊥
    well_typed e q both fault first =
        let one : e ≡ d = same_domain inputs d p pair.both e q both in
        let two : q ≡ p = same_problem inputs d p pair.both e q both in
        let none : all_faults e q ≡ [] = (λ i. all_faults (one i) (two i)) ∙ pair.well_formed in
        no_first fault (sym (ap first_of none) ∙ first)

    typed_not_refused : (new : SeenShelf) (refusal : Refusal) → IsIllTyped inputs shelf new (Refused refusal) → ⊥
    typed_not_refused new (Typing source place why) is = well_typed is.1.domain is.1.problem is.1.both _ is.1.first
    typed_not_refused new refusal is = is

    typed_there : (new : SeenShelf) (answer : Answer) → IsIllTyped inputs shelf new answer → status_of answer ≡ 7
    typed_there new (Refused refusal) is = absurd (typed_not_refused new refusal is)
    typed_there new OutOfMemory is = refl
    typed_there new answer is = absurd is

    pub task_not_refused : (new : SeenShelf) (refusal : Refusal) → IsWithoutTask inputs shelf new (Refused refusal) → ⊥
    task_not_refused new refusal (inl domain) =
        let held = pair.both.domain_held in
        value_not_refused IsDomain domain_text file.Domain inputs.domain held.bytes held.read.held held.read.within d held.spelled new refusal domain
    task_not_refused new refusal (inr (inl second)) =
        let held = pair.both.problem_held in
        value_not_refused IsProblem problem_text file.Problem inputs.problem held.bytes held.read.held held.read.within p held.spelled new refusal second.1
    task_not_refused new refusal (inr (inr ill)) = typed_not_refused new refusal ill

    module _ (flat : Parts) (is_flat : IsFlatTaskOf (task_of d p) flat) where
      bound_there : (task : TaskParts) → task ≡ task_of d p → (refusal : Refusal) → IsTaskReason task refusal → ⊥
      bound_there task same refusal (inl un) =
          right_is_no_fault is_flat.bound un.fault (sym is_flat.binds ∙ sym (ap bind_task same) ∙ un.unbound)
      bound_there task same refusal (inr un) =
          let one : un.bound ≡ is_flat.bound = same_right un.bound is_flat.bound (sym un.bound_is ∙ ap bind_task same ∙ is_flat.binds) in
          right_is_no_fault flat un.fault (sym is_flat.scales ∙ sym (ap scale_task one) ∙ un.unscaled)

      pub flat_not_refused : (new : SeenShelf) (refusal : Refusal) → IsWithoutFlat inputs shelf new (Refused refusal) → ⊥
      flat_not_refused new refusal (inl without) = task_not_refused new refusal without
      flat_not_refused new refusal (inr refused) =
          bound_there _ (same_task inputs d p pair.both refused.1.domain refused.1.problem refused.1.pair.both) refusal refused.1.of_task

    module _ (new : SeenShelf) (domain_read : Rose (shelf.read_faults inputs.domain) (new.read_faults inputs.domain) → ⊥) (problem_read : Rose (shelf.read_faults inputs.problem) (new.read_faults inputs.problem) → ⊥) where
      -- a task that is there isn't refused
      pub task_there : (answer : Answer) → IsWithoutTask inputs shelf new answer → status_of answer ≡ 7
      task_there answer (inl domain) =
          let held = pair.both.domain_held in
          value_there IsDomain domain_text file.Domain inputs.domain held.bytes held.read.held held.read.within d held.spelled new domain_read answer domain
      task_there answer (inr (inl second)) =
          let held = pair.both.problem_held in
          value_there IsProblem problem_text file.Problem inputs.problem held.bytes held.read.held held.read.within p held.spelled new problem_read answer second.1
      task_there answer (inr (inr ill)) = typed_there new answer ill

      module _ (flat : Parts) (is_flat : IsFlatTaskOf (task_of d p) flat) where
        flat_task_there : (task : TaskParts) → task ≡ task_of d p → (answer : Answer) → IsNotFlat task answer → status_of answer ≡ 7
        flat_task_there task same (Refused refusal) is = absurd (bound_there flat is_flat task same refusal is)
        flat_task_there task same OutOfMemory is = refl
        flat_task_there task same answer is = absurd is

        -- a flat task that is there isn't refused
        pub flat_there : (answer : Answer) → IsWithoutFlat inputs shelf new answer → status_of answer ≡ 7
        flat_there answer (inl without) = task_there answer without
        flat_there answer (inr refused) = flat_task_there _ (same_task inputs d p pair.both refused.1.domain refused.1.problem refused.1.pair.both) answer refused.1.of_task

  -- ---- the certificate

  module _ (name : List ℕ) (c : Certificate) (written : HoldsCertificate name shelf c) where
    pub same_certificate : (other : Certificate) → HoldsCertificate name shelf other → other ≡ c
    same_certificate other also =
        one_certificate written.bytes other c (subst (λ (b : List ℕ). Spells b other) (one_content name also.bytes written.bytes also.held written.held) also.of_bytes) written.of_bytes

    -- nothing in its bytes is a reason to refuse it
    pub not_refused : (bytes : List ℕ) → IsHeld shelf.files name bytes → (refusal : Refusal) → IsCertificateReason bytes refusal → ⊥
    not_refused bytes held (Syntax file.Certificate place) is =
        is.none c (subst (λ (b : List ℕ). Spells b c) (one_content name written.bytes bytes written.held held) written.of_bytes)
    not_refused bytes held refusal is = absurd is

    pub certificate_there : (new : SeenShelf) → (Rose (shelf.read_faults name) (new.read_faults name) → ⊥) → (answer : Answer) → IsWithoutCertificate name shelf new answer → status_of answer ≡ 7
    certificate_there new healthy (CannotRead g) is = absurd (healthy is.1.rose)
    certificate_there new healthy (Refused refusal) is = absurd (not_refused is.1.bytes is.1.held refusal is.1.of_bytes)
    certificate_there new healthy OutOfMemory is = refl
    certificate_there new healthy answer is = absurd is

  -- ---- the plan

  module _ (task : TaskParts) (name : List ℕ) (steps : List Step) (held : HoldsPlan task name shelf steps) where
    pub spelled_at : (bytes : List ℕ) → IsHeld shelf.files name bytes → SpellsPlan task bytes steps
    spelled_at bytes there = subst (λ (b : List ℕ). SpellsPlan task b steps) (one_content name held.bytes bytes held.held there) held.of_bytes

    pub plan_not_refused : (bytes : List ℕ) → IsHeld shelf.files name bytes → (refusal : Refusal) → IsPlanReason task bytes refusal → ⊥
    plan_not_refused bytes there (TooLong file.Plan) is = is.none steps (spelled_at bytes there)
    plan_not_refused bytes there (Syntax file.Plan place) is = is.none steps (spelled_at bytes there)
    plan_not_refused bytes there (NumberWide file.Plan place) is = is.none steps (spelled_at bytes there)
    plan_not_refused bytes there (StampOrder place) is = is.none steps (spelled_at bytes there)
    plan_not_refused bytes there (UnknownStep place) is = is.none steps (spelled_at bytes there)
    plan_not_refused bytes there refusal is = absurd is

    pub plan_there : (new : SeenShelf) → (Rose (shelf.read_faults name) (new.read_faults name) → ⊥) → (answer : Answer) → IsWithoutPlan task name shelf new answer → status_of answer ≡ 7
    plan_there new healthy (CannotRead g) is = absurd (healthy is.1.rose)
    plan_there new healthy (Refused refusal) is = absurd (plan_not_refused is.1.bytes is.1.held refusal is.1.of_bytes)
    plan_there new healthy OutOfMemory is = refl
    plan_there new healthy answer is = absurd is
