-- From a right answer that is given to what each status promises.
use Rattle.std.proofs.Common.{◌≡◌, ℕ, inl, inr, List, Option, Some, None, refl, sym, subst}
use Rattle.np_io.specs.Seen.{SeenShelf, SeenSink}
use Rattle.np_run.specs.declared.answers.RunEnd.TheVariants.{Goal, NoGoal, Stuck, NoCost}
use Rattle.np_model.specs.declared.task.TaskParts.{TaskParts}
use Rattle.np_typing.specs.TaskOf.{task_of}
use Rattle.np_flat.specs.declared.parts.Parts.{Parts}
use Rattle.np_cert.specs.declared.certificate.Limit.{Limit}
use Rattle.np_cert.specs.declared.certificate.Certificate.{Certificate}
use Rattle.np_answers.specs.declared.answer.solve.SolveAnswer.{SolveAnswer}
use Rattle.np_answers.specs.declared.answer.solve.SolveAnswer.TheVariants.{Optimal, Unsolvable, Spent}
use Rattle.np_answers.specs.declared.answer.check.CheckAnswer.TheVariants.{Yes, YesPlan, No}
use Rattle.np_answers.specs.declared.answer.refusal.Refusal.{Refusal}
use Rattle.np_answers.specs.declared.answer.Answer.{Answer}
use Rattle.np_answers.specs.declared.answer.Answer.TheVariants.{Usage, CannotRead, Refused, Solved, Checked, Ran, Listed, CannotWrite, OutOfMemory}
use Rattle.np_answers.specs.Words.{Inputs, Solve, Check, Run, Command, solving, checking, running, listing}
use Rattle.np_answers.specs.Texts.{status_of}
use Rattle.np_planner.specs.SolveAnswers.{IsRightSolve}
use Rattle.np_planner.specs.CheckAnswers.{IsTrueBeside}
use Rattle.np_planner.specs.RightAnswers.{IsRight, IsRightTo}
use Rattle.np_answers.specs.Output.{IsAnsweredBy}
use Rattle.np_planner.specs.Promises.{Call, call_of, Says, IsAnswered, IsTold, IsSolveTold, IsOptimal, HasNoPlan, IsBudgetSpent, WhenSolving, IsRefused, IsPushCut, IsOutOfMemory, Status, status_named, Promise, KeepsPromise, KeepsItsWord, IsCheckTold, IsYesBeside}
use Rattle.np_planner.specs.Promises as kind
use Rattle.np_answers.proofs.Apart.{AreApart, solving_apart}
use Rattle.np_planner.proofs.Checkable.{checkable, plan_checkable}
use Rattle.np_planner.proofs.Coming.{comes, plan_comes}
use Rattle.np_planner.proofs.Untouched.{untouched}

-- a right answer to this command was said whole
abbrev Kept : Call → Command → Answer → Type 0
Kept call command answer = Promise (Some command) (status_named (status_of answer)) call

module _ (call : Call) where
  module _ (answer : Answer) (says : Says call answer) where
    told : (command : Command) → IsRightTo command call.before call.after answer → IsTold call command answer
    told command right = record { says = says; right = right }

  -- a refusal was said, and it changes nothing
  refused : (command : Command) (refusal : Refusal) → Says call (Refused refusal) → IsRightTo command call.before call.after (Refused refusal) → IsRefused call command
  refused command refusal says right = record { refusal = refusal; told = told (Refused refusal) says command right; untouched = untouched call.before call.after command refusal right }

  -- memory ran out, and that was said
  forgot : (command : Command) → call.command ≡ Some command → Says call OutOfMemory → IsRightTo command call.before call.after OutOfMemory → IsOutOfMemory call
  forgot command words_are says right =
      record { answer = OutOfMemory; right = subst (λ (o : Option Command). IsRight o call.before call.after OutOfMemory) (sym words_are) right; says = inr says }

  module _ (command : Solve) (names : AreApart command) (words_are : call.command ≡ Some (solving command)) where
    solved_by : (answer : SolveAnswer) → Says call (Solved answer) → IsRightSolve command answer call.before call.after → IsSolveTold call command answer
    solved_by answer says right = record { says = says; right = right; checkable = checkable command names answer call.before call.after right }

    own : (answer : SolveAnswer) → Says call (Solved answer) → IsRightSolve command answer call.before call.after → Kept call (solving command) (Solved answer)
    own (Optimal cost) says right = record { cost = cost; told = solved_by (Optimal cost) says right; plan_checkable = plan_checkable command names cost call.before call.after right }
    own Unsolvable says right = solved_by Unsolvable says right
    own (Spent nodes bound) says right = (bound, subst (λ (n : ℕ). IsSolveTold call command (Spent n bound)) right.true_answer.whole_budget (solved_by (Spent nodes bound) says right))

    solved : (answer : Answer) → Says call answer → IsRightTo (solving command) call.before call.after answer → Kept call (solving command) answer
    solved (CannotRead f) says right = (f, told (CannotRead f) says (solving command) right)
    solved (Refused refusal) says right = refused (solving command) refusal says right
    solved (CannotWrite f) says right = inl (f, told (CannotWrite f) says (solving command) right)
    solved OutOfMemory says right = forgot (solving command) words_are says right
    solved (Solved answer) says (inr right) = own answer says right
    solved answer says (inl (inl (inl without))) = absurd without
    solved answer says (inl (inl (inr (inl without)))) = absurd without.1
    solved answer says (inl (inl (inr (inr without)))) = absurd without
    solved answer says (inl (inr without)) = absurd without.1.of_task
    solved answer says (inr right) = absurd right

  module _ (command : Check) (words_are : call.command ≡ Some (checking command)) where
    -- a yes of either form comes only where the words name no plan, or name one
    module _ (task : TaskParts) (flat : Parts) (c : Certificate) where
      yes_alone : (claim : Limit) → IsCheckTold call command (Yes claim) → (plan : Option (List ℕ)) → IsTrueBeside task flat c plan call.before (Yes claim) → IsYesBeside plan call command
      yes_alone claim said None is = (claim, said)
      yes_alone claim said (Some name) is = absurd is.of_steps

      yes_beside : (cost : ℕ) → IsCheckTold call command (YesPlan cost) → (plan : Option (List ℕ)) → IsTrueBeside task flat c plan call.before (YesPlan cost) → IsYesBeside plan call command
      yes_beside cost said None is = absurd is
      yes_beside cost said (Some name) is = (cost, said)

    checked : (answer : Answer) → Says call answer → IsRightTo (checking command) call.before call.after answer → Kept call (checking command) answer
    checked (CannotRead f) says right = (f, told (CannotRead f) says (checking command) right)
    checked (Refused refusal) says right = refused (checking command) refusal says right
    checked OutOfMemory says right = forgot (checking command) words_are says right
    checked (Checked (Yes claim)) says (inr (inr (inr right))) = yes_alone (task_of right.1.domain right.1.problem) right.1.flat right.1.certificate claim (record { says = says; right = right.1; untouched = right.0 }) command.plan right.1.true_answer
    checked (Checked (YesPlan cost)) says (inr (inr (inr right))) = yes_beside (task_of right.1.domain right.1.problem) right.1.flat right.1.certificate cost (record { says = says; right = right.1; untouched = right.0 }) command.plan right.1.true_answer
    checked (Checked (No fault)) says (inr (inr (inr right))) = (fault, record { says = says; right = right.1; untouched = right.0 })
    checked answer says (inl (inl (inl without))) = absurd without
    checked answer says (inl (inl (inr (inl without)))) = absurd without.1
    checked answer says (inl (inl (inr (inr without)))) = absurd without
    checked answer says (inl (inr without)) = absurd without.1.of_task
    checked answer says (inr (inl without)) = absurd without.of_flat
    checked answer says (inr (inr (inl without))) = absurd without.of_flat.without
    checked answer says (inr (inr (inr right))) = absurd right

  module _ (command : Run) (words_are : call.command ≡ Some (running command)) where
    ran : (answer : Answer) → Says call answer → IsRightTo (running command) call.before call.after answer → Kept call (running command) answer
    ran (CannotRead f) says right = (f, told (CannotRead f) says (running command) right)
    ran (Refused refusal) says right = refused (running command) refusal says right
    ran OutOfMemory says right = forgot (running command) words_are says right
    ran (Ran (Goal cost)) says (inr (inr right)) = (cost, record { says = says; right = right.1; untouched = right.0 })
    ran (Ran NoGoal) says (inr (inr right)) = record { end = NoGoal; other = tt; told = record { says = says; right = right.1; untouched = right.0 } }
    ran (Ran (Stuck n)) says (inr (inr right)) = record { end = Stuck n; other = tt; told = record { says = says; right = right.1; untouched = right.0 } }
    ran (Ran (NoCost n)) says (inr (inr right)) = record { end = NoCost n; other = tt; told = record { says = says; right = right.1; untouched = right.0 } }
    ran answer says (inl (inl without)) = absurd without
    ran answer says (inl (inr (inl without))) = absurd without.1
    ran answer says (inl (inr (inr without))) = absurd without
    ran answer says (inr (inl without)) = absurd without.of_task
    ran answer says (inr (inr right)) = absurd right.1.of_task.of_steps

  module _ (inputs : Inputs) (words_are : call.command ≡ Some (listing inputs)) where
    listed : (answer : Answer) → Says call answer → IsRightTo (listing inputs) call.before call.after answer → Kept call (listing inputs) answer
    listed (CannotRead f) says right = (f, told (CannotRead f) says (listing inputs) right)
    listed (Refused refusal) says right = refused (listing inputs) refusal says right
    listed OutOfMemory says right = forgot (listing inputs) words_are says right
    listed (Listed text) says (inr right) = record { text = text; says = says; right = right.1; untouched = right.0 }
    listed answer says (inl (inl (inl without))) = absurd without
    listed answer says (inl (inl (inr (inl without)))) = absurd without.1
    listed answer says (inl (inl (inr (inr without)))) = absurd without
    listed answer says (inl (inr without)) = absurd without.1.of_task
    listed answer says (inr right) = absurd right.1.of_flat

  -- a right answer was said whole
  whole : (answer : Answer) → Says call answer → (o : Option Command) → ((command : Solve) → o ≡ Some (solving command) → AreApart command) → call.command ≡ o → IsRight o call.before call.after answer
      → Promise o (status_named (status_of answer)) call
  whole Usage says None names words_are right = record { says = says; untouched = right }
  whole answer says None names words_are right = absurd right
  whole answer says (Some (solving command)) names words_are right = solved command (names command refl) words_are answer says right
  whole answer says (Some (checking command)) names words_are right = checked command words_are answer says right
  whole answer says (Some (running command)) names words_are right = ran command words_are answer says right
  whole answer says (Some (listing inputs)) names words_are right = listed inputs words_are answer says right

  cut : (o : Option Command) → IsPushCut call → Promise o kind.unwritten call
  cut None is = inr is
  cut (Some (solving command)) is = inr is
  cut (Some (checking command)) is = inr is
  cut (Some (running command)) is = inr is
  cut (Some (listing inputs)) is = inr is

  unsaid : (o : Option Command) → IsOutOfMemory call → Promise o kind.no_memory call
  unsaid None is = is
  unsaid (Some (solving command)) is = is
  unsaid (Some (checking command)) is = is
  unsaid (Some (running command)) is = is
  unsaid (Some (listing inputs)) is = is

  module _ (names : (command : Solve) → call.command ≡ Some (solving command) → AreApart command) (status : ℕ) (is : IsAnswered call status) where
    at : (s : ℕ) → status ≡ s → Promise call.command (status_named s) call → KeepsPromise call status
    at s e p = subst (λ (n : ℕ). Promise call.command (status_named n) call) (sym e) p

    given : IsAnsweredBy is.answer call.out_before call.out_after status → KeepsPromise call status
    given (inl (inl p)) = at (status_of is.answer) p.0 (whole is.answer p.1 call.command names refl is.right)
    given (inl (inr (inl c))) = at 5 c.0 (cut call.command (record { answer = is.answer; right = is.right; said = is.answer; one_of = inl refl; cut = c.1 }))
    given (inl (inr (inr u))) = at 7 u.0 (unsaid call.command (record { answer = is.answer; right = is.right; says = inl u.1 }))
    given (inr (inl p)) = at 7 p.0 (unsaid call.command (record { answer = is.answer; right = is.right; says = inr p.1 }))
    given (inr (inr (inl c))) = at 5 c.0 (cut call.command (record { answer = is.answer; right = is.right; said = OutOfMemory; one_of = inr refl; cut = c.1 }))
    given (inr (inr (inr u))) = at 7 u.0 (unsaid call.command (record { answer = is.answer; right = is.right; says = inl u.1 }))

    kept : KeepsPromise call status
    kept = given is.given

    at_status : (s : ℕ) → status ≡ s → Promise call.command (status_named s) call
    at_status s e = subst (λ (n : ℕ). Promise call.command (status_named n) call) e kept

    no_plan : (o : Option Command) → call.command ≡ o → Promise o kind.unsolvable call → WhenSolving call (HasNoPlan call)
    no_plan None words_are p = absurd p
    no_plan (Some (solving command)) words_are p = record { command = command; words_are = words_are; holds = p }
    no_plan (Some (checking command)) words_are p = absurd p
    no_plan (Some (running command)) words_are p = absurd p
    no_plan (Some (listing inputs)) words_are p = absurd p

    budget_spent : (o : Option Command) → call.command ≡ o → Promise o kind.spent call → WhenSolving call (IsBudgetSpent call)
    budget_spent None words_are p = absurd p
    budget_spent (Some (solving command)) words_are p = record { command = command; words_are = words_are; holds = p }
    budget_spent (Some (checking command)) words_are p = absurd p
    budget_spent (Some (running command)) words_are p = absurd p
    budget_spent (Some (listing inputs)) words_are p = absurd p

    word : KeepsItsWord call status
    word = record {
      optimal = λ command words_are e. subst (λ (o : Option Command). Promise o kind.done call) words_are (at_status 0 e);
      unsolvable = λ e. no_plan call.command refl (at_status 10 e);
      spent = λ e. budget_spent call.command refl (at_status 11 e);
      yes = λ command words_are e. subst (λ (o : Option Command). Promise o kind.done call) words_are (at_status 0 e);
      yes_comes = comes call status is;
      plan_yes_comes = plan_comes call status is;
      runs = λ command words_are e. subst (λ (o : Option Command). Promise o kind.done call) words_are (at_status 0 e);
      runs_not = λ command words_are e. subst (λ (o : Option Command). Promise o kind.denied call) words_are (at_status 6 e);
      lists = λ inputs words_are e. subst (λ (o : Option Command). Promise o kind.done call) words_are (at_status 0 e);
    }

pub promise_of : (words : List (List ℕ)) (before after : SeenShelf) (out_before out_after : SeenSink) (status : ℕ) → IsAnswered (call_of words before after out_before out_after) status → KeepsPromise (call_of words before after out_before out_after) status
promise_of words before after out_before out_after status is = kept (call_of words before after out_before out_after) (solving_apart words) status is

pub word_of : (words : List (List ℕ)) (before after : SeenShelf) (out_before out_after : SeenSink) (status : ℕ) → IsAnswered (call_of words before after out_before out_after) status → KeepsItsWord (call_of words before after out_before out_after) status
word_of words before after out_before out_after status is = word (call_of words before after out_before out_after) (solving_apart words) status is
