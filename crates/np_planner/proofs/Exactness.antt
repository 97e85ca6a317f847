-- An answer that the files make right comes, where nothing fails and memory is there.
use Rattle.std.proofs.Common.{◌≡◌, ℕ, ◌⊎◌, inl, inr, List, Option, Some, None, Result, Ok, Err, refl, sym, ap, subst, ◌∙◌}
use Rattle.std.proofs.lemmas.Option.{same_Some}
use Rattle.np_io.specs.Files.{Files}
use Rattle.np_io.specs.Counts.{Rose}
use Rattle.np_model.specs.declared.task.Step.{Step}
use Rattle.np_model.specs.declared.task.TaskParts.{TaskParts}
use Rattle.np_model.specs.Tasks.{IsTask}
use Rattle.np_syntax.specs.declared.domain.Domain.{Domain}
use Rattle.np_problem.specs.declared.problem.Problem.{Problem}
use Rattle.np_typing.specs.TaskOf.{task_of}
use Rattle.np_flat.specs.declared.parts.Parts.{Parts}
use Rattle.np_scale.specs.Scaling.{IsFlatTaskOf}
use Rattle.np_list.specs.ListText.{list_text}
use Rattle.np_plan.specs.Plans.{Spells}
use Rattle.np_run.specs.declared.answers.RunEnd.{RunEnd}
use Rattle.np_run.specs.declared.answers.RunFault.{RunFault}
use Rattle.np_run.specs.declared.answers.RunFault.TheVariants.{Wide}
use Rattle.np_cert.specs.declared.certificate.Certificate.{Certificate}
use Rattle.np_answers.specs.declared.answer.File.TheVariants as file
use Rattle.np_answers.specs.declared.answer.refusal.Refusal.{Refusal}
use Rattle.np_answers.specs.declared.answer.refusal.Refusal.TheVariants.{StepWide}
use Rattle.np_answers.specs.declared.answer.check.CheckAnswer.{CheckAnswer}
use Rattle.np_answers.specs.declared.answer.Answer.{Answer}
use Rattle.np_answers.specs.declared.answer.Answer.TheVariants.{Refused, Solved, Checked, Ran, Listed, CannotWrite, OutOfMemory}
use Rattle.np_answers.specs.Words.{Inputs, Solve, Check, Run, Command, solving, checking, running, listing}
use Rattle.np_answers.specs.Texts.{status_of}
use Rattle.np_answers.specs.Output.{IsAnsweredBy}
use Rattle.np_commands.specs.Checking.{IsTrueOfPlan}
use Rattle.np_commands.specs.Running.{IsRunBy}
use Rattle.np_commands.specs.Listing.{IsListed}
use Rattle.np_commands.proofs.OneAnswer.{one_of_certificate, one_of_plan}
use Rattle.np_commands.proofs.OnePlan.{one_plan}
use Rattle.np_planner.specs.TaskFiles.{HoldsTask, HoldsTaskFor, HoldsFlatFor, IsWithoutTask, IsWithoutFlat}
use Rattle.np_planner.specs.GivenFiles.{HoldsCertificate, HoldsPlan, HoldsStepsFor, IsWithoutPlan}
use Rattle.np_planner.specs.SolveAnswers.{IsSolveAnswer}
use Rattle.np_planner.specs.CheckAnswers.{IsCheckWithoutCertificate, IsCheckWithoutPlan, IsTrueBeside, IsRightCheck, IsCheckAnswer}
use Rattle.np_planner.specs.RunAnswers.{IsRunWithoutPlan, IsRunAnswer}
use Rattle.np_planner.specs.RightAnswers.{IsRight, IsRightTo}
use Rattle.np_planner.specs.Promises.{Call, Says, IsAnswered, NoneRose, names_in, HadNoFault}
use Rattle.np_planner.specs.Exactness.{IsOfFiles, IsExact}
use Rattle.np_planner.proofs.Unrefused.{one_content, same_task, same_flat, same_certificate, task_there, flat_there, task_not_refused, flat_not_refused, not_refused, certificate_there, plan_not_refused, plan_there}
use Rattle.np_planner.proofs.OneRefusal.{IsIt, no_answer, no_task, no_flat, no_certificate, no_plan}

-- ---- a list of steps that is run

one_outcome : {A E : Type 0} (r a b : Result A E) → r ≡ a → r ≡ b → a ≡ b
one_outcome r a b is also = sym is ∙ also

one_end : (a b : RunEnd) → ◌≡◌ {A = Result RunEnd RunFault} (Ok a) (Ok b) → a ≡ b
one_end a b e = cc

one_wide_step : (m n : ℕ) → ◌≡◌ {A = Result RunEnd RunFault} (Err (Wide m)) (Err (Wide n)) → m ≡ n
one_wide_step m n e = cc

end_is_not_wide : (a : RunEnd) (n : ℕ) → ◌≡◌ {A = Result RunEnd RunFault} (Ok a) (Err (Wide n)) → ⊥
end_is_not_wide a n e = absurd cc

module _ (task : TaskParts) (steps : List Step) where
  one_run : (a : RunEnd) → IsRunBy task steps (Ran a) → (answer : Answer) → IsRunBy task steps answer → IsIt (Ran a) answer
  one_run a is (Refused (StepWide n)) also = absurd (end_is_not_wide a n (sym is.computed ∙ also))
  one_run a is (Ran b) also = inl (ap Ran (one_end b a (sym also.computed ∙ is.computed)))
  one_run a is OutOfMemory also = inr refl
  one_run a is (Refused r) also = absurd also
  one_run a is answer also = absurd also

  wide_run : (n : ℕ) → IsRunBy task steps (Refused (StepWide n)) → (answer : Answer) → IsRunBy task steps answer → IsIt (Refused (StepWide n)) answer
  wide_run n is (Refused (StepWide m)) also = inl (ap (λ (k : ℕ). Refused (StepWide k)) (one_wide_step m n (sym also ∙ is)))
  wide_run n is (Ran b) also = absurd (end_is_not_wide b n (sym also.computed ∙ is))
  wide_run n is OutOfMemory also = inr refl
  wide_run n is (Refused r) also = absurd also
  wide_run n is answer also = absurd also

  run_refused : (r : Refusal) → IsRunBy task steps (Refused r) → (answer : Answer) → IsRunBy task steps answer → IsIt (Refused r) answer
  run_refused (StepWide n) is answer also = wide_run n is answer also
  run_refused r is answer also = absurd is

-- ---- the text of a flat task

listed_once : (task : TaskParts) (flat : Parts) (text : List ℕ) → text ≡ list_text task flat → (answer : Answer) → IsListed task flat answer → IsIt (Listed text) answer
listed_once task flat text is (Listed other) also = inl (ap Listed (also ∙ sym is))
listed_once task flat text is OutOfMemory also = inr refl
listed_once task flat text is answer also = absurd also

module _ (call : Call) (files : Files) (told : call.before.files ≡ Some files) where
  -- the task and the flat task of two readings are the same
  tasks : (inputs : Inputs) (d e : Domain) (p q : Problem) → HoldsTask inputs call.before d p → HoldsTask inputs call.before e q → task_of e q ≡ task_of d p
  tasks inputs d e p q one two = same_task call.before files told inputs d p one.both e q two.both

  flats : (inputs : Inputs) (d e : Domain) (p q : Problem) → HoldsTask inputs call.before d p → HoldsTask inputs call.before e q
      → (flat other : Parts) → IsFlatTaskOf (task_of d p) flat → IsFlatTaskOf (task_of e q) other → other ≡ flat
  flats inputs d e p q one two flat other is also = same_flat call.before files told inputs d p one.both flat is e q two.both other also

  -- the steps of two readings are the same
  steps_same : (task : TaskParts) → IsTask task → (name : List ℕ) (steps other : List Step) → HoldsPlan task name call.before steps → HoldsPlan task name call.before other → other ≡ steps
  steps_same task good name steps other one two =
      let content : two.bytes ≡ one.bytes = one_content call.before files told name two.bytes one.bytes two.held one.held in
      one_plan task good one.bytes steps other one.of_bytes.spelled (subst (λ (b : List ℕ). Spells task b other) content two.of_bytes.spelled)

  -- ---- `solve`

  module _ (command : Solve) (healthy : HadNoFault call (solving command)) where
    -- where the files stand for no flat task, `solve` answers nothing else
    unsolved : (r : Refusal) → IsWithoutFlat command.inputs call.before call.before (Refused r) → (answer : Answer) → IsSolveAnswer command call.before call.after answer → IsIt (Refused r) answer
    unsolved r cause (Solved answer) is = absurd (flat_not_refused call.before files told command.inputs is.domain is.problem is.pair is.flat is.is_flat call.before r cause)
    unsolved r cause (CannotWrite file.Certificate) is = absurd (healthy.writes.0 is.failed.rose)
    unsolved r cause (CannotWrite file.Plan) is = absurd (healthy.writes.1.0 is.failed.rose)
    unsolved r cause (CannotWrite f) is = absurd is
    unsolved r cause OutOfMemory is = inr refl
    unsolved r cause answer is = absurd is

    solves_so : (r : Refusal) → IsRightTo (solving command) call.before call.before (Refused r) → (answer : Answer) → IsRightTo (solving command) call.before call.after answer → IsIt (Refused r) answer
    solves_so r (inl cause) answer (inl is) = no_flat call.before files told command.inputs call.after healthy.reads.0 healthy.reads.1.0 r cause answer is
    solves_so r (inl cause) answer (inr is) = unsolved r cause answer is
    solves_so r (inr cause) answer is = absurd cause

  -- ---- `list`

  module _ (inputs : Inputs) (healthy : HadNoFault call (listing inputs)) where
    unlisted : (r : Refusal) → IsRightTo (listing inputs) call.before call.before (Refused r) → (answer : Answer) → IsRightTo (listing inputs) call.before call.after answer → IsIt (Refused r) answer
    unlisted r (inl cause) answer (inl is) = no_flat call.before files told inputs call.after healthy.reads.0 healthy.reads.1.0 r cause answer is
    unlisted r (inl cause) answer (inr is) = absurd (flat_not_refused call.before files told inputs is.1.domain is.1.problem is.1.pair is.1.flat is.1.is_flat call.before r cause)
    unlisted r (inr cause) answer is = absurd cause.1.of_flat

    module _ (text : List ℕ) (cause : HoldsFlatFor inputs call.before (λ task flat. text ≡ list_text task flat)) where
      lists_so : (answer : Answer) → IsRightTo (listing inputs) call.before call.after answer → IsIt (Listed text) answer
      lists_so answer (inl is) =
          inr (flat_there call.before files told inputs cause.domain cause.problem cause.pair call.after healthy.reads.0 healthy.reads.1.0 cause.flat cause.is_flat answer is)
      lists_so answer (inr is) =
          let task : task_of is.1.domain is.1.problem ≡ task_of cause.domain cause.problem = tasks inputs cause.domain is.1.domain cause.problem is.1.problem cause.pair is.1.pair in
          let flat : is.1.flat ≡ cause.flat = flats inputs cause.domain is.1.domain cause.problem is.1.problem cause.pair is.1.pair cause.flat is.1.flat cause.is_flat is.1.is_flat in
          listed_once (task_of cause.domain cause.problem) cause.flat text cause.of_flat answer
          (subst (λ (t : TaskParts). IsListed t cause.flat answer) task (subst (λ (t : Parts). IsListed (task_of is.1.domain is.1.problem) t answer) flat is.1.of_flat))

  -- ---- `run`

  module _ (command : Run) (healthy : HadNoFault call (running command)) where
    abbrev Runs : Answer → Type 0
    Runs answer = IsRunWithoutPlan command call.before call.after answer ⊎ IsRunAnswer command call.before call.after answer

    -- where the files stand for no task, `run` answers nothing else
    not_run : (r : Refusal) → IsWithoutTask command.inputs call.before call.before (Refused r) → (answer : Answer) → Runs answer → IsIt (Refused r) answer
    not_run r cause answer (inl is) = absurd (task_not_refused call.before files told command.inputs is.domain is.problem is.pair call.before r cause)
    not_run r cause answer (inr is) = absurd (task_not_refused call.before files told command.inputs is.1.domain is.1.problem is.1.pair call.before r cause)

    -- where they stand for one, and the plan spells no steps of it
    module _ (r : Refusal) (cause : HoldsTaskFor command.inputs call.before (λ task. IsWithoutPlan task command.plan call.before call.before (Refused r))) where
      unplanned : (answer : Answer) → Runs answer → IsIt (Refused r) answer
      unplanned answer (inl is) =
          no_plan call.before files told command.plan call.after healthy.reads.1.1.0 r (task_of is.domain is.problem)
          (subst (λ (t : TaskParts). IsWithoutPlan t command.plan call.before call.before (Refused r)) (tasks command.inputs is.domain cause.domain is.problem cause.problem is.pair cause.pair) cause.of_task)
          answer is.of_task
      unplanned answer (inr is) =
          let without = subst (λ (t : TaskParts). IsWithoutPlan t command.plan call.before call.before (Refused r)) (tasks command.inputs is.1.domain cause.domain is.1.problem cause.problem is.1.pair cause.pair) cause.of_task in
          absurd (plan_not_refused call.before files told (task_of is.1.domain is.1.problem) command.plan is.1.of_task.steps is.1.of_task.held without.1.bytes without.1.held r without.1.of_bytes)

    -- and where it spells steps, of which this is said
    module _ (expected : Answer) (OfSteps : TaskParts → List Step → Type 0)
        (once : (task : TaskParts) (steps : List Step) → OfSteps task steps → (answer : Answer) → IsRunBy task steps answer → IsIt expected answer)
        (cause : HoldsTaskFor command.inputs call.before (λ task. HoldsStepsFor task command.plan call.before (λ steps. OfSteps task steps))) where
      runs_so : (answer : Answer) → Runs answer → IsIt expected answer
      runs_so answer (inl is) =
          let same : task_of cause.domain cause.problem ≡ task_of is.domain is.problem = tasks command.inputs is.domain cause.domain is.problem cause.problem is.pair cause.pair in
          inr (plan_there call.before files told (task_of is.domain is.problem) command.plan cause.of_task.steps
          (subst (λ (t : TaskParts). HoldsPlan t command.plan call.before cause.of_task.steps) same cause.of_task.held) call.after healthy.reads.1.1.0 answer is.of_task)
      runs_so answer (inr is) =
          let task : TaskParts = task_of is.1.domain is.1.problem in
          let same : task_of cause.domain cause.problem ≡ task = tasks command.inputs is.1.domain cause.domain is.1.problem cause.problem is.1.pair cause.pair in
          let held = subst (λ (t : TaskParts). HoldsPlan t command.plan call.before cause.of_task.steps) same cause.of_task.held in
          let steps : is.1.of_task.steps ≡ cause.of_task.steps = steps_same task is.1.pair.is_task command.plan cause.of_task.steps is.1.of_task.steps held is.1.of_task.held in
          once task cause.of_task.steps (subst (λ (t : TaskParts). OfSteps t cause.of_task.steps) same cause.of_task.of_steps) answer
          (subst (λ (ss : List Step). IsRunBy task ss answer) steps is.1.of_task.of_steps)

      run_there : (answer : Answer) → IsRightTo (running command) call.before call.after answer → IsIt expected answer
      run_there answer (inl is) =
          inr (task_there call.before files told command.inputs cause.domain cause.problem cause.pair call.after healthy.reads.0 healthy.reads.1.0 answer is)
      run_there answer (inr is) = runs_so answer is

    run_refuses : (r : Refusal) → IsRightTo (running command) call.before call.before (Refused r) → (answer : Answer) → IsRightTo (running command) call.before call.after answer → IsIt (Refused r) answer
    run_refuses r (inl cause) answer (inl is) = no_task call.before files told command.inputs call.after healthy.reads.0 healthy.reads.1.0 r cause answer is
    run_refuses r (inl cause) answer (inr is) = not_run r cause answer is
    run_refuses r (inr (inl cause)) answer (inl is) =
        inr (task_there call.before files told command.inputs cause.domain cause.problem cause.pair call.after healthy.reads.0 healthy.reads.1.0 answer is)
    run_refuses r (inr (inl cause)) answer (inr is) = unplanned r cause answer is
    run_refuses r (inr (inr cause)) answer is = run_there (Refused r) (λ task steps. IsRunBy task steps (Refused r)) (λ task steps of. run_refused task steps r of) cause.1 answer is

    run_ends : (end : RunEnd) → IsRightTo (running command) call.before call.before (Ran end) → (answer : Answer) → IsRightTo (running command) call.before call.after answer → IsIt (Ran end) answer
    run_ends end (inl (inl cause)) answer is = absurd cause
    run_ends end (inl (inr (inl cause))) answer is = absurd cause.1
    run_ends end (inl (inr (inr cause))) answer is = absurd cause
    run_ends end (inr (inl cause)) answer is = absurd cause.of_task
    run_ends end (inr (inr cause)) answer is = run_there (Ran end) (λ task steps. IsRunBy task steps (Ran end)) (λ task steps of. one_run task steps end of) cause.1 answer is

  -- ---- `check`

  -- of what the words name beside the task, one answer is true
  one_beside : (task : TaskParts) → IsTask task → (flat : Parts) (c : Certificate) (plan : Option (List ℕ)) (a b : CheckAnswer) → IsTrueBeside task flat c plan call.before a → IsTrueBeside task flat c plan call.before b → a ≡ b
  one_beside task good flat c None a b one two = one_of_certificate task flat c a b one two
  one_beside task good flat c (Some name) a b one two =
      let same : two.steps ≡ one.steps = steps_same task good name one.steps two.steps one.held two.held in
      one_of_plan task flat c one.steps a b one.of_steps (subst (λ (ss : List Step). IsTrueOfPlan task flat c ss b) same two.of_steps)

  module _ (command : Check) (healthy : HadNoFault call (checking command)) where
    abbrev Certified : Answer → Type 0
    Certified answer = IsCheckWithoutPlan command call.before call.after answer ⊎ IsCheckAnswer command call.before call.after answer

    abbrev Judged : Answer → Type 0
    Judged answer = IsCheckWithoutCertificate command call.before call.after answer ⊎ Certified answer

    -- the reads of the plan that the words name didn't fail
    plan_read : (name : List ℕ) → command.plan ≡ Some name → Rose (call.before.read_faults name) (call.after.read_faults name) → ⊥
    plan_read name named = (subst (λ (o : Option (List ℕ)). NoneRose call.before.read_faults call.after.read_faults (names_in o)) named healthy.reads.1.1.1).0

    -- where the files stand for no flat task, `check` answers nothing else
    module _ (r : Refusal) (cause : IsWithoutFlat command.inputs call.before call.before (Refused r)) where
      unjudged_by : (answer : Answer) → IsCheckAnswer command call.before call.after answer → IsIt (Refused r) answer
      unjudged_by (Checked answer) is = absurd (flat_not_refused call.before files told command.inputs is.1.domain is.1.problem is.1.pair is.1.flat is.1.is_flat call.before r cause)
      unjudged_by OutOfMemory is = inr refl
      unjudged_by answer is = absurd is

      unjudged : (answer : Answer) → Judged answer → IsIt (Refused r) answer
      unjudged answer (inl is) = absurd (flat_not_refused call.before files told command.inputs is.domain is.problem is.pair is.flat is.is_flat call.before r cause)
      unjudged answer (inr (inl is)) = absurd (flat_not_refused call.before files told command.inputs is.domain is.problem is.pair is.flat is.is_flat call.before r cause)
      unjudged answer (inr (inr is)) = unjudged_by answer is

    -- where a flat task is there, whatever is expected of it
    module _ (expected : Answer) (OfFlat : TaskParts → Parts → Type 0) (cause : HoldsFlatFor command.inputs call.before OfFlat) (next : (answer : Answer) → Judged answer → IsIt expected answer) where
      past_flat : (answer : Answer) → IsRightTo (checking command) call.before call.after answer → IsIt expected answer
      past_flat answer (inl is) =
          inr (flat_there call.before files told command.inputs cause.domain cause.problem cause.pair call.after healthy.reads.0 healthy.reads.1.0 cause.flat cause.is_flat answer is)
      past_flat answer (inr is) = next answer is

    -- where the certificate is refused
    module _ (r : Refusal) (cause : IsCheckWithoutCertificate command call.before call.before (Refused r)) where
      with_certificate : (c : Certificate) → HoldsCertificate command.certificate call.before c → ⊥
      with_certificate c written = not_refused call.before files told command.certificate c written cause.of_flat.1.bytes cause.of_flat.1.held r cause.of_flat.1.of_bytes

      uncertified_by : (answer : Answer) → IsCheckAnswer command call.before call.after answer → IsIt (Refused r) answer
      uncertified_by (Checked answer) is = absurd (with_certificate is.1.certificate is.1.written)
      uncertified_by OutOfMemory is = inr refl
      uncertified_by answer is = absurd is

      uncertified : (answer : Answer) → Judged answer → IsIt (Refused r) answer
      uncertified answer (inl is) = no_certificate call.before files told command.certificate call.after healthy.reads.1.1.0 r cause.of_flat answer is.of_flat
      uncertified answer (inr (inl is)) = absurd (with_certificate is.of_flat.certificate is.of_flat.written)
      uncertified answer (inr (inr is)) = uncertified_by answer is

    -- where a certificate is there, whatever is expected of it
    module _ (expected : Answer) (c : Certificate) (written : HoldsCertificate command.certificate call.before c) (next : (answer : Answer) → Certified answer → IsIt expected answer) where
      past_certificate : (answer : Answer) → Judged answer → IsIt expected answer
      past_certificate answer (inl is) = inr (certificate_there call.before files told command.certificate c written call.after healthy.reads.1.1.0 answer is.of_flat)
      past_certificate answer (inr is) = next answer is

    -- where the plan is refused
    module _ (r : Refusal) (cause : IsCheckWithoutPlan command call.before call.before (Refused r)) where
      named : command.plan ≡ Some cause.of_flat.name
      named = cause.of_flat.named

      without_at : (e : Domain) (q : Problem) → HoldsTask command.inputs call.before e q → IsWithoutPlan (task_of e q) cause.of_flat.name call.before call.before (Refused r)
      without_at e q pair = subst (λ (t : TaskParts). IsWithoutPlan t cause.of_flat.name call.before call.before (Refused r)) (tasks command.inputs e cause.domain q cause.problem pair cause.pair) cause.of_flat.without

      unnamed_by : (answer : Answer) → IsCheckAnswer command call.before call.after answer → IsIt (Refused r) answer
      unnamed_by (Checked answer) is =
          let task : TaskParts = task_of is.1.domain is.1.problem in
          let beside = subst (λ (o : Option (List ℕ)). IsTrueBeside task is.1.flat is.1.certificate o call.before answer) named is.1.true_answer in
          let without = without_at is.1.domain is.1.problem is.1.pair in
          absurd (plan_not_refused call.before files told task cause.of_flat.name beside.steps beside.held without.1.bytes without.1.held r without.1.of_bytes)
      unnamed_by OutOfMemory is = inr refl
      unnamed_by answer is = absurd is

      unnamed : (answer : Answer) → Certified answer → IsIt (Refused r) answer
      unnamed answer (inl is) =
          let one : is.of_flat.name ≡ cause.of_flat.name = same_Some is.of_flat.name cause.of_flat.name (sym is.of_flat.named ∙ named) in
          no_plan call.before files told cause.of_flat.name call.after (plan_read cause.of_flat.name named) r (task_of is.domain is.problem) (without_at is.domain is.problem is.pair) answer
          (subst (λ (n : List ℕ). IsWithoutPlan (task_of is.domain is.problem) n call.before call.after answer) one is.of_flat.without)
      unnamed answer (inr is) = unnamed_by answer is

    check_refuses : (r : Refusal) → IsRightTo (checking command) call.before call.before (Refused r) → (answer : Answer) → IsRightTo (checking command) call.before call.after answer → IsIt (Refused r) answer
    check_refuses r (inl cause) answer (inl is) = no_flat call.before files told command.inputs call.after healthy.reads.0 healthy.reads.1.0 r cause answer is
    check_refuses r (inl cause) answer (inr is) = unjudged r cause answer is
    check_refuses r (inr (inl cause)) answer is = past_flat (Refused r) _ cause (uncertified r cause) answer is
    check_refuses r (inr (inr (inl cause))) answer is =
        past_flat (Refused r) _ cause (past_certificate (Refused r) cause.of_flat.certificate cause.of_flat.written (unnamed r cause)) answer is
    check_refuses r (inr (inr (inr cause))) answer is = absurd cause

    -- where all is there that the words name, and this answer is true of it
    module _ (expected : CheckAnswer) (cause : IsRightCheck command expected call.before) where
      judged_by : (answer : Answer) → IsCheckAnswer command call.before call.after answer → IsIt (Checked expected) answer
      judged_by (Checked answer) is =
          let task : task_of is.1.domain is.1.problem ≡ task_of cause.domain cause.problem = tasks command.inputs cause.domain is.1.domain cause.problem is.1.problem cause.pair is.1.pair in
          let flat : is.1.flat ≡ cause.flat = flats command.inputs cause.domain is.1.domain cause.problem is.1.problem cause.pair is.1.pair cause.flat is.1.flat cause.is_flat is.1.is_flat in
          let c : is.1.certificate ≡ cause.certificate = same_certificate call.before files told command.certificate cause.certificate cause.written is.1.certificate is.1.written in
          let there = subst (λ (t : TaskParts). IsTrueBeside t cause.flat cause.certificate command.plan call.before answer) task
          (subst (λ (t : Parts). IsTrueBeside (task_of is.1.domain is.1.problem) t cause.certificate command.plan call.before answer) flat
          (subst (λ (x : Certificate). IsTrueBeside (task_of is.1.domain is.1.problem) is.1.flat x command.plan call.before answer) c is.1.true_answer)) in
          inl (ap Checked (one_beside (task_of cause.domain cause.problem) cause.pair.is_task cause.flat cause.certificate command.plan answer expected there cause.true_answer))
      judged_by OutOfMemory is = inr refl
      judged_by answer is = absurd is

      -- the plan that the words name is there
      planned : (name : List ℕ) → command.plan ≡ Some name → (e : Domain) (q : Problem) → HoldsTask command.inputs call.before e q → (answer : Answer) → IsWithoutPlan (task_of e q) name call.before call.after answer → status_of answer ≡ 7
      planned name named e q pair answer is =
          let beside = subst (λ (o : Option (List ℕ)). IsTrueBeside (task_of cause.domain cause.problem) cause.flat cause.certificate o call.before expected) named cause.true_answer in
          plan_there call.before files told (task_of e q) name beside.steps
          (subst (λ (t : TaskParts). HoldsPlan t name call.before beside.steps) (tasks command.inputs e cause.domain q cause.problem pair cause.pair) beside.held) call.after (plan_read name named) answer is

      judged : (answer : Answer) → Certified answer → IsIt (Checked expected) answer
      judged answer (inl is) = inr (planned is.of_flat.name is.of_flat.named is.domain is.problem is.pair answer is.of_flat.without)
      judged answer (inr is) = judged_by answer is

      held_flat : HoldsFlatFor command.inputs call.before (λ task flat. Unit {0})
      held_flat = record { domain = cause.domain; problem = cause.problem; pair = cause.pair; flat = cause.flat; is_flat = cause.is_flat; of_flat = tt }

      pub checks_so : (answer : Answer) → IsRightTo (checking command) call.before call.after answer → IsIt (Checked expected) answer
      checks_so answer is = past_flat (Checked expected) _ held_flat (past_certificate (Checked expected) cause.certificate cause.written judged) answer is

    check_answers : (expected : CheckAnswer) → IsRightTo (checking command) call.before call.before (Checked expected) → (answer : Answer) → IsRightTo (checking command) call.before call.after answer → IsIt (Checked expected) answer
    check_answers expected (inl (inl (inl cause))) answer is = absurd cause
    check_answers expected (inl (inl (inr (inl cause)))) answer is = absurd cause.1
    check_answers expected (inl (inl (inr (inr cause)))) answer is = absurd cause
    check_answers expected (inl (inr cause)) answer is = absurd cause.1.of_task
    check_answers expected (inr (inl cause)) answer is = absurd cause.of_flat
    check_answers expected (inr (inr (inl cause))) answer is = absurd cause.of_flat.without
    check_answers expected (inr (inr (inr cause))) answer is = checks_so expected cause.1 answer is

  -- ---- the four

  -- before there is a flat task nothing but refusals, faults of reads and memory running out is answered
  no_work : {X Y : Type 0} (inputs : Inputs) (OfTask : TaskParts → Type 0) → ((task : TaskParts) → OfTask task → ⊥) → (⊥ ⊎ ((X × ⊥) ⊎ ⊥)) ⊎ (Y × HoldsTaskFor inputs call.before OfTask) → ⊥
  no_work inputs OfTask none (inl is) = no_answer is
  no_work inputs OfTask none (inr is) = none (task_of is.1.domain is.1.problem) is.1.of_task

  nothing : (task : TaskParts) → ⊥ → ⊥
  nothing task never = never

  abbrev IsRightAsIs : Command → Answer → Type 0
  IsRightAsIs command expected = IsRightTo command call.before call.before expected

  module _ (answer : Answer) where
    it_of : (command : Command) → HadNoFault call command → IsRightTo command call.before call.after answer → (expected : Answer) → IsOfFiles expected → IsRightAsIs command expected → IsIt expected answer
    it_of (solving command) healthy is (Refused r) of cause = solves_so command healthy r cause answer is
    it_of (solving command) healthy is (Checked x) of (inl cause) = absurd (no_work command.inputs (λ task. ⊥) nothing cause)
    it_of (solving command) healthy is (Ran x) of (inl cause) = absurd (no_work command.inputs (λ task. ⊥) nothing cause)
    it_of (solving command) healthy is (Listed x) of (inl cause) = absurd (no_work command.inputs (λ task. ⊥) nothing cause)
    it_of (solving command) healthy is (Checked x) of (inr cause) = absurd cause
    it_of (solving command) healthy is (Ran x) of (inr cause) = absurd cause
    it_of (solving command) healthy is (Listed x) of (inr cause) = absurd cause
    it_of (checking command) healthy is (Refused r) of cause = check_refuses command healthy r cause answer is
    it_of (checking command) healthy is (Checked x) of cause = check_answers command healthy x cause answer is
    it_of (checking command) healthy is (Ran x) of (inl cause) = absurd (no_work command.inputs (λ task. ⊥) nothing cause)
    it_of (checking command) healthy is (Listed x) of (inl cause) = absurd (no_work command.inputs (λ task. ⊥) nothing cause)
    it_of (checking command) healthy is (Ran x) of (inr (inl cause)) = absurd cause.of_flat
    it_of (checking command) healthy is (Listed x) of (inr (inl cause)) = absurd cause.of_flat
    it_of (checking command) healthy is (Ran x) of (inr (inr (inl cause))) = absurd cause.of_flat.without
    it_of (checking command) healthy is (Listed x) of (inr (inr (inl cause))) = absurd cause.of_flat.without
    it_of (checking command) healthy is (Ran x) of (inr (inr (inr cause))) = absurd cause
    it_of (checking command) healthy is (Listed x) of (inr (inr (inr cause))) = absurd cause
    it_of (running command) healthy is (Refused r) of cause = run_refuses command healthy r cause answer is
    it_of (running command) healthy is (Ran x) of cause = run_ends command healthy x cause answer is
    it_of (running command) healthy is (Checked x) of (inl cause) = absurd (no_answer cause)
    it_of (running command) healthy is (Listed x) of (inl cause) = absurd (no_answer cause)
    it_of (running command) healthy is (Checked x) of (inr (inl cause)) = absurd cause.of_task
    it_of (running command) healthy is (Listed x) of (inr (inl cause)) = absurd cause.of_task
    it_of (running command) healthy is (Checked x) of (inr (inr cause)) = absurd cause.1.of_task.of_steps
    it_of (running command) healthy is (Listed x) of (inr (inr cause)) = absurd cause.1.of_task.of_steps
    it_of (listing inputs) healthy is (Refused r) of cause = unlisted inputs healthy r cause answer is
    it_of (listing inputs) healthy is (Listed text) of (inr cause) = lists_so inputs healthy text cause.1 answer is
    it_of (listing inputs) healthy is (Listed text) of (inl cause) = absurd (no_work inputs (λ task. ⊥) nothing cause)
    it_of (listing inputs) healthy is (Checked x) of (inl cause) = absurd (no_work inputs (λ task. ⊥) nothing cause)
    it_of (listing inputs) healthy is (Ran x) of (inl cause) = absurd (no_work inputs (λ task. ⊥) nothing cause)
    it_of (listing inputs) healthy is (Checked x) of (inr cause) = absurd cause.1.of_flat
    it_of (listing inputs) healthy is (Ran x) of (inr cause) = absurd cause.1.of_flat
    it_of command healthy is expected of cause = absurd of

-- ---- the answer is given

module _ (call : Call) (expected : Answer) where
  abbrev Said : ℕ → Type 0
  Said status = ((status ≡ status_of expected) × Says call expected) ⊎ (status ≡ 7)

  said_so : (status : ℕ) (answer : Answer) → IsIt expected answer → status ≡ status_of answer → Says call answer → Said status
  said_so status answer (inl e) own says = inl (own ∙ ap status_of e, subst (Says call) e says)
  said_so status answer (inr e) own says = inr (own ∙ e)

  given : (command : Command) → HadNoFault call command → (status : ℕ) (answer : Answer) → IsIt expected answer → IsAnsweredBy answer call.out_before call.out_after status → Said status
  given command healthy status answer it (inl (inl p)) = said_so status answer it p.0 p.1
  given command healthy status answer it (inl (inr (inl c))) = absurd (healthy.sink c.1.rose.rose)
  given command healthy status answer it (inl (inr (inr u))) = inr u.0
  given command healthy status answer it (inr (inl p)) = inr p.0
  given command healthy status answer it (inr (inr (inl c))) = absurd (healthy.sink c.1.rose.rose)
  given command healthy status answer it (inr (inr (inr u))) = inr u.0

pub exact_of : (call : Call) (status : ℕ) → IsAnswered call status → IsExact call status
exact_of call status is command expected words_are cause healthy =
    let right = subst (λ (o : Option Command). IsRight o call.before call.after is.answer) words_are is.right in
    given call expected command healthy status is.answer (it_of call cause.files cause.told is.answer command healthy right expected cause.of_files cause.right) is.given
