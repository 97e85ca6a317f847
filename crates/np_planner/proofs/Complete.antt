-- That files which aren't refused get an answer, where nothing fails and memory is there.
use Rattle.std.proofs.Common.{◌≡◌, ℕ, ◌⊎◌, inl, inr, List, Option, Some, refl, sym, subst}
use Rattle.np_model.specs.declared.task.Step.{Step}
use Rattle.np_model.specs.declared.task.TaskParts.{TaskParts}
use Rattle.np_model.specs.Tasks.{IsTask}
use Rattle.np_typing.specs.TaskOf.{task_of}
use Rattle.np_run.specs.declared.answers.RunEnd.{RunEnd}
use Rattle.np_run.specs.declared.answers.RunEnd.TheVariants as run
use Rattle.np_plan.specs.Plans.{Spells}
use Rattle.np_answers.specs.declared.answer.File.TheVariants as file
use Rattle.np_answers.specs.declared.answer.refusal.Refusal.TheVariants.{StepWide}
use Rattle.np_answers.specs.declared.answer.solve.SolveAnswer.TheVariants.{Optimal, Unsolvable, Spent}
use Rattle.np_answers.specs.declared.answer.check.CheckAnswer.TheVariants.{Yes, YesPlan, No}
use Rattle.np_answers.specs.declared.answer.Answer.{Answer}
use Rattle.np_answers.specs.declared.answer.Answer.TheVariants.{Refused, CannotWrite, Solved, Checked, Ran, Listed, OutOfMemory}
use Rattle.np_answers.specs.Words.{Inputs, Solve, Check, Run, Command, solving, checking, running, listing}
use Rattle.np_answers.specs.Texts.{status_of}
use Rattle.np_answers.specs.Output.{IsAnsweredBy}
use Rattle.np_commands.specs.Running.{IsRunBy}
use Rattle.np_planner.specs.TaskFiles.{HoldsTaskFor}
use Rattle.np_planner.specs.GivenFiles.{HoldsPlan, IsWithoutPlan}
use Rattle.np_planner.specs.SolveAnswers.{IsSolveAnswer}
use Rattle.np_planner.specs.CheckAnswers.{IsCheckAnswer}
use Rattle.np_planner.specs.ListAnswers.{IsListAnswer}
use Rattle.np_planner.specs.RightAnswers.{IsRight, IsRightTo}
use Rattle.np_planner.specs.Promises.{Call, IsAnswered, NoneRose, names_in, HadNoFault}
use Rattle.np_planner.specs.Completeness.{TellsFlat, HoldsNamed, TellsGiven, IsNotWide, TellsPlan, IsComplete}
use Rattle.np_planner.proofs.Unrefused.{one_content, same_task, task_there, flat_there, certificate_there, plan_there}
use Rattle.np_commands.proofs.OnePlan.{one_plan}

-- the status is one that these are, or memory ran out
abbrev IsOf : (ℕ → Type 0) → ℕ → Type 0
IsOf These status = These status ⊎ (status ≡ 7)

-- the status of an answer that is given is the answer's, or that memory ran out
given : (call : Call) (command : Command) → HadNoFault call command → (These : ℕ → Type 0) (status : ℕ) (answer : Answer) → IsOf These (status_of answer) → IsAnsweredBy answer call.out_before call.out_after status → IsOf These status
given call command healthy These status answer of (inl (inl p)) = subst (IsOf These) (sym p.0) of
given call command healthy These status answer of (inl (inr (inl c))) = absurd (healthy.sink c.1.rose.rose)
given call command healthy These status answer of (inl (inr (inr u))) = inr u.0
given call command healthy These status answer of (inr (inl p)) = inr p.0
given call command healthy These status answer of (inr (inr (inl c))) = absurd (healthy.sink c.1.rose.rose)
given call command healthy These status answer of (inr (inr (inr u))) = inr u.0

module _ (call : Call) where
  -- ---- `solve`

  abbrev Solves : ℕ → Type 0
  Solves status = (status ≡ 0) ⊎ ((status ≡ 10) ⊎ (status ≡ 11))

  module _ (command : Solve) (tells : TellsFlat command.inputs call.before) (healthy : HadNoFault call (solving command)) where
    solved : (answer : Answer) → IsSolveAnswer command call.before call.after answer → IsOf Solves (status_of answer)
    solved (Solved (Optimal cost)) is = inl (inl refl)
    solved (Solved Unsolvable) is = inl (inr (inl refl))
    solved (Solved (Spent nodes bound)) is = inl (inr (inr refl))
    solved (CannotWrite file.Certificate) is = absurd (healthy.writes.0 is.failed.rose)
    solved (CannotWrite file.Plan) is = absurd (healthy.writes.1.0 is.failed.rose)
    solved (CannotWrite f) is = absurd is
    solved OutOfMemory is = inr refl
    solved answer is = absurd is

    solves : (answer : Answer) → IsRightTo (solving command) call.before call.after answer → IsOf Solves (status_of answer)
    solves answer (inl without) =
        inr (flat_there call.before tells.files tells.told command.inputs tells.flat.domain tells.flat.problem tells.flat.pair call.after healthy.reads.0 healthy.reads.1.0 tells.flat.flat tells.flat.is_flat answer without)
    solves answer (inr is) = solved answer is

  -- ---- `list`

  abbrev Lists : ℕ → Type 0
  Lists status = status ≡ 0

  module _ (inputs : Inputs) (tells : TellsFlat inputs call.before) (healthy : HadNoFault call (listing inputs)) where
    listed : (answer : Answer) → IsListAnswer inputs call.before call.after answer → IsOf Lists (status_of answer)
    listed (Listed text) is = inl refl
    listed OutOfMemory is = inr refl
    listed answer is = absurd is.1.of_flat

    lists : (answer : Answer) → IsRightTo (listing inputs) call.before call.after answer → IsOf Lists (status_of answer)
    lists answer (inl without) =
        inr (flat_there call.before tells.files tells.told inputs tells.flat.domain tells.flat.problem tells.flat.pair call.after healthy.reads.0 healthy.reads.1.0 tells.flat.flat tells.flat.is_flat answer without)
    lists answer (inr is) = listed answer is

  -- ---- `check` and `run`

  abbrev Judges : ℕ → Type 0
  Judges status = (status ≡ 0) ⊎ (status ≡ 6)

  module _ (command : Check) (tells : TellsGiven command call.before) (healthy : HadNoFault call (checking command)) where
    checked : (answer : Answer) → IsCheckAnswer command call.before call.after answer → IsOf Judges (status_of answer)
    checked (Checked (Yes claim)) is = inl (inl refl)
    checked (Checked (YesPlan cost)) is = inl (inl refl)
    checked (Checked (No fault)) is = inl (inr refl)
    checked OutOfMemory is = inr refl
    checked answer is = absurd is

    -- the plan that the words name is there
    named_there : (name : List ℕ) → command.plan ≡ Some name → (task : TaskParts) → task ≡ task_of tells.given.domain tells.given.problem → (answer : Answer) → IsWithoutPlan task name call.before call.after answer → status_of answer ≡ 7
    named_there name named task same answer without =
        let reads = subst (λ (o : Option (List ℕ)). NoneRose call.before.read_faults call.after.read_faults (names_in o)) named healthy.reads.1.1.1 in
        let plan = subst (λ (o : Option (List ℕ)). HoldsNamed (task_of tells.given.domain tells.given.problem) o call.before) named tells.given.of_flat.plan in
        plan_there call.before tells.files tells.told task name plan.steps (subst (λ (t : TaskParts). HoldsPlan t name call.before plan.steps) (sym same) plan.held) call.after reads.0 answer without

    checks : (answer : Answer) → IsRightTo (checking command) call.before call.after answer → IsOf Judges (status_of answer)
    checks answer (inl without) =
        inr (flat_there call.before tells.files tells.told command.inputs tells.given.domain tells.given.problem tells.given.pair call.after healthy.reads.0 healthy.reads.1.0 tells.given.flat tells.given.is_flat answer without)
    checks answer (inr (inl without)) =
        inr (certificate_there call.before tells.files tells.told command.certificate tells.given.of_flat.certificate tells.given.of_flat.written call.after healthy.reads.1.1.0 answer without.of_flat)
    checks answer (inr (inr (inl without))) =
        inr (named_there without.of_flat.name without.of_flat.named _
        (same_task call.before tells.files tells.told command.inputs tells.given.domain tells.given.problem tells.given.pair.both without.domain without.problem without.pair.both) answer without.of_flat.without)
    checks answer (inr (inr (inr is))) = checked answer is

  module _ (command : Run) (tells : TellsPlan command call.before) (healthy : HadNoFault call (running command)) where
    ended : (end : RunEnd) → IsOf Judges (status_of (Ran end))
    ended (run.Goal cost) = inl (inl refl)
    ended run.NoGoal = inl (inr refl)
    ended (run.Stuck number) = inl (inr refl)
    ended (run.NoCost number) = inl (inr refl)

    module _ (task : TaskParts) (same : task ≡ task_of tells.plan.domain tells.plan.problem) where
      -- the steps that are read are those that are told
      not_wide : (steps : List Step) → HoldsPlan task command.plan call.before steps → IsNotWide task steps
      not_wide steps held =
          let there = tells.plan.of_task in
          let content : held.bytes ≡ there.held.bytes = one_content call.before tells.files tells.told command.plan held.bytes there.held.bytes held.held there.held.held in
          let good : IsTask task = subst IsTask (sym same) tells.plan.pair.is_task in
          let spelled : Spells task held.bytes there.steps =
          subst (λ (b : List ℕ). Spells task b there.steps) (sym content) (subst (λ (t : TaskParts). Spells t there.held.bytes there.steps) (sym same) there.held.of_bytes.spelled) in
          let one : steps ≡ there.steps = one_plan task good held.bytes there.steps steps spelled held.of_bytes.spelled in
          subst (IsNotWide task) (sym one) (subst (λ (t : TaskParts). IsNotWide t there.steps) (sym same) there.of_steps)

      run_by : (steps : List Step) → HoldsPlan task command.plan call.before steps → (answer : Answer) → IsRunBy task steps answer → IsOf Judges (status_of answer)
      run_by steps held (Refused (StepWide number)) is = absurd (not_wide steps held number is)
      run_by steps held (Ran end) is = ended end
      run_by steps held OutOfMemory is = inr refl
      run_by steps held (Refused refusal) is = absurd is
      run_by steps held answer is = absurd is

    same_of : (OfTask : TaskParts → Type 0) (other : HoldsTaskFor command.inputs call.before OfTask) → task_of other.domain other.problem ≡ task_of tells.plan.domain tells.plan.problem
    same_of OfTask other = same_task call.before tells.files tells.told command.inputs tells.plan.domain tells.plan.problem tells.plan.pair.both other.domain other.problem other.pair.both

    runs : (answer : Answer) → IsRightTo (running command) call.before call.after answer → IsOf Judges (status_of answer)
    runs answer (inl without) =
        inr (task_there call.before tells.files tells.told command.inputs tells.plan.domain tells.plan.problem tells.plan.pair call.after healthy.reads.0 healthy.reads.1.0 answer without)
    runs answer (inr (inl without)) =
        let there = tells.plan.of_task in
        inr (plan_there call.before tells.files tells.told _ command.plan there.steps
        (subst (λ (t : TaskParts). HoldsPlan t command.plan call.before there.steps) (sym (same_of _ without)) there.held) call.after healthy.reads.1.1.0 answer without.of_task)
    runs answer (inr (inr is)) = run_by _ (same_of _ is.1) is.1.of_task.steps is.1.of_task.held answer is.1.of_task.of_steps

  -- ---- the four

  module _ (status : ℕ) (is : IsAnswered call status) where
    right_to : (command : Command) → call.command ≡ Some command → IsRightTo command call.before call.after is.answer
    right_to command words_are = subst (λ (o : Option Command). IsRight o call.before call.after is.answer) words_are is.right

    three : IsOf Solves status → (status ≡ 0) ⊎ ((status ≡ 10) ⊎ ((status ≡ 11) ⊎ (status ≡ 7)))
    three (inl (inl e)) = inl e
    three (inl (inr (inl e))) = inr (inl e)
    three (inl (inr (inr e))) = inr (inr (inl e))
    three (inr e) = inr (inr (inr e))

    two : IsOf Judges status → (status ≡ 0) ⊎ ((status ≡ 6) ⊎ (status ≡ 7))
    two (inl (inl e)) = inl e
    two (inl (inr e)) = inr (inl e)
    two (inr e) = inr (inr e)

    complete : IsComplete call status
    complete = record {
      solves = λ command words_are tells healthy. three (given call (solving command) healthy Solves status is.answer (solves command tells healthy is.answer (right_to (solving command) words_are)) is.given);
      checks = λ command words_are tells healthy. two (given call (checking command) healthy Judges status is.answer (checks command tells healthy is.answer (right_to (checking command) words_are)) is.given);
      runs = λ command words_are tells healthy. two (given call (running command) healthy Judges status is.answer (runs command tells healthy is.answer (right_to (running command) words_are)) is.given);
      lists = λ inputs words_are tells healthy. given call (listing inputs) healthy Lists status is.answer (lists inputs tells healthy is.answer (right_to (listing inputs) words_are)) is.given;
    }

pub complete_of : (call : Call) (status : ℕ) → IsAnswered call status → IsComplete call status
complete_of call status is = complete call status is
