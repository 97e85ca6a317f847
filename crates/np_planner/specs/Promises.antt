-- What the top call promises, status by status.
use Rattle.std.specs.Prelude.{◌≡◌, ℕ, ⊤, ◌==◌, ◌⊎◌, List, [], ◌∷◌, Option, Some, None, if◌then◌else◌}
use Rattle.np_io.specs.Seen.{SeenShelf, SeenSink}
use Rattle.np_io.specs.Files.{Files}
use Rattle.np_io.specs.Counts.{Rose}
use Rattle.np_frac.specs.Fractions.{Fraction}
use Rattle.np_cert.specs.declared.certificate.Limit.{Limit}
use Rattle.np_run.specs.declared.answers.RunEnd.{RunEnd}
use Rattle.np_run.specs.declared.answers.RunEnd.TheVariants.{Goal}
use Rattle.np_answers.specs.declared.answer.File.{File}
use Rattle.np_answers.specs.declared.answer.refusal.Refusal.{Refusal}
use Rattle.np_answers.specs.declared.answer.solve.SolveAnswer.{SolveAnswer}
use Rattle.np_answers.specs.declared.answer.solve.SolveAnswer.TheVariants.{Optimal, Unsolvable, Spent}
use Rattle.np_answers.specs.declared.answer.check.CheckAnswer.{CheckAnswer}
use Rattle.np_answers.specs.declared.answer.check.CheckAnswer.TheVariants.{Yes, YesPlan, No}
use Rattle.np_answers.specs.declared.answer.check.Fault.{Fault}
use Rattle.np_answers.specs.declared.answer.Answer.{Answer}
use Rattle.np_answers.specs.declared.answer.Answer.TheVariants.{Usage, CannotRead, Refused, Solved, Checked, Ran, Listed, CannotWrite, OutOfMemory}
use Rattle.np_answers.specs.Words.{Inputs, Solve, Check, Run, Command, solving, checking, running, listing, command_of}
use Rattle.np_commands.specs.Solving.{claim_of}
use Rattle.np_planner.specs.SolveAnswers.{IsRightSolve}
use Rattle.np_planner.specs.CheckAnswers.{IsRightCheck, HoldsValid, HoldsOptimal}
use Rattle.np_planner.specs.RunAnswers.{IsRightRun}
use Rattle.np_planner.specs.ListAnswers.{IsRightList}
use Rattle.np_planner.specs.RightAnswers.{IsRight, IsRightTo}
use Rattle.np_answers.specs.Texts.{text_of}
use Rattle.np_answers.specs.Output.{IsWhole, IsCutOff, IsAnsweredBy}

-- a call of the planner: the command that its words fit, and the shelf and the sink before and after it
pub record Call : Type 0 where
  pub command : Option Command
  pub before : SeenShelf
  pub after : SeenShelf
  pub out_before : SeenSink
  pub out_after : SeenSink

abbrev pub call_of : List (List ℕ) → SeenShelf → SeenShelf → SeenSink → SeenSink → Call
call_of words before after out_before out_after = record { command = command_of words; before = before; after = after; out_before = out_before; out_after = out_after }

-- the text of the answer was pushed whole
abbrev pub Says : Call → Answer → Type 0
Says call answer = IsWhole (text_of answer) call.out_before call.out_after

-- THE WHOLE. The words are answered rightly, by what the shelf was before and is afterwards, and the answer is given
pub record IsAnswered (call : Call) (status : ℕ) : Type 0 where
  pub answer : Answer
  pub right : IsRight call.command call.before call.after answer
  pub given : IsAnsweredBy answer call.out_before call.out_after status

-- some words are answered; or there was no memory for them, nothing was done, and nothing was said
abbrev pub IsAnsweredFor : SeenShelf → SeenShelf → SeenSink → SeenSink → ℕ → Type 0
IsAnsweredFor before after out_before out_after status =
    ((words : List (List ℕ)) × IsAnswered (call_of words before after out_before out_after) status)
    ⊎ ((status ≡ 7) × ((after ≡ before) × (out_after ≡ out_before)))

-- what a status means
pub data Status : Type 0 where
  done : Status
  usage : Status
  refused : Status
  unread : Status
  unwritten : Status
  denied : Status
  no_memory : Status
  unsolvable : Status
  spent : Status
  unused : Status

abbrev pub status_named : ℕ → Status
status_named status =
    if status == 0 then done
    else if status == 2 then usage
    else if status == 3 then refused
    else if status == 4 then unread
    else if status == 5 then unwritten
    else if status == 6 then denied
    else if status == 7 then no_memory
    else if status == 10 then unsolvable
    else if status == 11 then spent
    else unused

-- the text of this right answer to a command was pushed whole
pub record IsTold (call : Call) (command : Command) (answer : Answer) : Type 0 where
  pub says : Says call answer
  pub right : IsRightTo command call.before call.after answer

-- what `check` is told of the files of `solve`, without the plan, and with it
abbrev pub check_after : Solve → Check
check_after command = record { inputs = command.inputs; certificate = command.certificate; plan = None }

abbrev pub check_plan_after : Solve → Check
check_plan_after command = record { inputs = command.inputs; certificate = command.certificate; plan = Some command.plan }

-- where the shelf tells what it holds afterwards, the certificate under CERT is one to which `check` says yes, with this claim
abbrev pub IsCheckable : Call → Solve → Limit → Type 0
IsCheckable call command claim = (files : Files) → call.after.files ≡ Some files → HoldsValid (check_after command) claim call.after

-- and to which, with the plan under PLAN, it says yes too
abbrev pub IsPlanCheckable : Call → Solve → ℕ → Type 0
IsPlanCheckable call command cost = (files : Files) → call.after.files ≡ Some files → HoldsOptimal (check_plan_after command) cost call.after

-- the text of this answer of `solve` was pushed; it is true of the task of the files, and `check` says yes to the certificate that was put
pub record IsSolveTold (call : Call) (command : Solve) (answer : SolveAnswer) : Type 0 where
  pub says : Says call (Solved answer)
  pub right : IsRightSolve command answer call.before call.after
  pub checkable : IsCheckable call command (claim_of answer)

-- `Optimal C, weak 0`: the plan that was put is a cheapest one, of cost C, and the certificate that was put says that none costs less
pub record IsOptimal (call : Call) (command : Solve) : Type 0 where
  pub cost : ℕ
  pub told : IsSolveTold call command (Optimal cost)
  pub plan_checkable : IsPlanCheckable call command cost

-- `Unsolvable, weak 0`: the task has no plan, and the certificate that was put says so
abbrev pub HasNoPlan : Call → Solve → Type 0
HasNoPlan call command = IsSolveTold call command Unsolvable

-- `Budget spent N, bound L, weak 0`: N is the budget of the words, and all that is said of N and L is true of the task; the certificate that
-- was put says that no plan costs less than L
abbrev pub IsBudgetSpent : Call → Solve → Type 0
IsBudgetSpent call command = (bound : ℕ) × IsSolveTold call command (Spent command.nodes bound)

-- the text of this answer of `check` was pushed; it is true of the files, and nothing was done
pub record IsCheckTold (call : Call) (command : Check) (answer : CheckAnswer) : Type 0 where
  pub says : Says call (Checked answer)
  pub right : IsRightCheck command answer call.before
  pub untouched : call.after ≡ call.before

-- `Yes: ..`: the certificate is valid for the flat task of the files' task, and its claim is true of the task's plans; where the words name a
-- plan, moreover it is one of the task, and its cost is the claim
abbrev pub IsYesBeside : Option (List ℕ) → Call → Check → Type 0
IsYesBeside None call command = (claim : Limit) × IsCheckTold call command (Yes claim)
IsYesBeside (Some name) call command = (cost : ℕ) × IsCheckTold call command (YesPlan cost)

abbrev pub IsYes : Call → Check → Type 0
IsYes call command = IsYesBeside command.plan call command

-- `No: ..`: it names the first fault of the certificate, or else of the plan
abbrev pub IsNo : Call → Check → Type 0
IsNo call command = (fault : Fault) × IsCheckTold call command (No fault)

-- the text of this answer of `run` was pushed; it is true of the files, and nothing was done
pub record IsRunTold (call : Call) (command : Run) (end : RunEnd) : Type 0 where
  pub says : Says call (Ran end)
  pub right : IsRightRun command end call.before
  pub untouched : call.after ≡ call.before

-- `Plan, cost C`: the file's steps are a plan of the task of the pair, of cost C
abbrev pub IsPlanTold : Call → Run → Type 0
IsPlanTold call command = (cost : Fraction) × IsRunTold call command (Goal cost)

-- it isn't that of a plan
abbrev pub IsOtherEnd : RunEnd → Type 0
IsOtherEnd (Goal cost) = ⊥
IsOtherEnd end = ⊤

-- `Not a plan: ..`: the first step that isn't applicable or has no cost, or that the goal doesn't hold at the end
pub record IsNoPlanTold (call : Call) (command : Run) : Type 0 where
  pub end : RunEnd
  pub other : IsOtherEnd end
  pub told : IsRunTold call command end

-- the text of the flat task of the pair was pushed, and nothing was done
pub record IsListTold (call : Call) (inputs : Inputs) : Type 0 where
  pub text : List ℕ
  pub says : Says call (Listed text)
  pub right : IsRightList inputs text call.before
  pub untouched : call.after ≡ call.before

-- the words fit no command, the usage text was pushed, and nothing was done
pub record IsUsage (call : Call) : Type 0 where
  pub says : Says call Usage
  pub untouched : call.after ≡ call.before

-- a refusal was pushed, what the files hold is the reason, and nothing was done
pub record IsRefused (call : Call) (command : Command) : Type 0 where
  pub refusal : Refusal
  pub told : IsTold call command (Refused refusal)
  pub untouched : call.after ≡ call.before

-- a read failed, and that was said
abbrev pub HadReadFault : Call → Command → Type 0
HadReadFault call command = (file : File) × IsTold call command (CannotRead file)

-- a write of the certificate or of the plan failed, and that was said
abbrev pub HadWriteFault : Call → Option Command → Type 0
HadWriteFault call None = ⊥
HadWriteFault call (Some command) = (file : File) × IsTold call command (CannotWrite file)

-- one push failed in this call: a prefix of a right answer's text, or of `Out of memory`, was pushed
pub record IsPushCut (call : Call) : Type 0 where
  pub answer : Answer
  pub right : IsRight call.command call.before call.after answer
  pub said : Answer
  pub one_of : (said ≡ answer) ⊎ (said ≡ OutOfMemory)
  pub cut : IsCutOff (text_of said) call.out_before call.out_after

-- memory ran out: nothing was pushed, or the words `Out of memory`, and no push failed; what was done before is what a right answer allows
pub record IsOutOfMemory (call : Call) : Type 0 where
  pub answer : Answer
  pub right : IsRight call.command call.before call.after answer
  pub says : (call.out_after ≡ call.out_before) ⊎ Says call OutOfMemory

-- WHAT A STATUS PROMISES, by the command that the words fit. No other status comes.
abbrev pub Promise : Option Command → Status → Call → Type 0
Promise None usage call = IsUsage call
Promise (Some (solving solve)) done call = IsOptimal call solve
Promise (Some (solving solve)) unsolvable call = HasNoPlan call solve
Promise (Some (solving solve)) spent call = IsBudgetSpent call solve
Promise (Some (checking check)) done call = IsYes call check
Promise (Some (checking check)) denied call = IsNo call check
Promise (Some (running run)) done call = IsPlanTold call run
Promise (Some (running run)) denied call = IsNoPlanTold call run
Promise (Some (listing inputs)) done call = IsListTold call inputs
Promise (Some command) refused call = IsRefused call command
Promise (Some command) unread call = HadReadFault call command
Promise command unwritten call = HadWriteFault call command ⊎ IsPushCut call
Promise command no_memory call = IsOutOfMemory call
Promise command status call = ⊥

abbrev pub KeepsPromise : Call → ℕ → Type 0
KeepsPromise call status = Promise call.command (status_named status) call

-- ---- a call without a fault

-- the files that a command reads, and those that it puts
abbrev pub names_in : Option (List ℕ) → List (List ℕ)
names_in None = []
names_in (Some name) = name ∷ []

abbrev pub reads_of : Command → List (List ℕ)
reads_of (solving solve) = solve.inputs.domain ∷ solve.inputs.problem ∷ []
reads_of (checking check) = check.inputs.domain ∷ check.inputs.problem ∷ check.certificate ∷ names_in check.plan
reads_of (running run) = run.inputs.domain ∷ run.inputs.problem ∷ run.plan ∷ []
reads_of (listing inputs) = inputs.domain ∷ inputs.problem ∷ []

abbrev pub puts_of : Command → List (List ℕ)
puts_of (solving solve) = solve.certificate ∷ solve.plan ∷ []
puts_of command = []

-- no count of these names rose
abbrev pub NoneRose : (List ℕ → ℕ) → (List ℕ → ℕ) → List (List ℕ) → Type 0
NoneRose before after [] = ⊤
NoneRose before after (name ∷ names) = (Rose (before name) (after name) → ⊥) × NoneRose before after names

-- no read of a file that the command reads failed in the call, no write of one that it puts, and no push
pub record HadNoFault (call : Call) (command : Command) : Type 0 where
  pub reads : NoneRose call.before.read_faults call.after.read_faults (reads_of command)
  pub writes : NoneRose call.before.write_faults call.after.write_faults (puts_of command)
  pub sink : Rose call.out_before.faults call.out_after.faults → ⊥

-- the words are those of `solve`, and this holds of them
pub record WhenSolving (call : Call) (Holds : Solve → Type 0) : Type 0 where
  pub command : Solve
  pub words_are : call.command ≡ Some (solving command)
  pub holds : Holds command

-- THE HEADLINE. What `solve` prints is true: the plan runs, meets the goal and costs the printed number, and no plan of any length costs
-- less; or there is none; or no plan costs less than the bound. What it puts is a certificate to which `check` says yes, also with the plan.
-- And the yes of `check`, on whatever bytes, is true of its claim and of the plan, and comes for every valid certificate by expansion, and with
-- every plan whose cost is the claim, where nothing fails and memory is there. What `run` says of a plan's file is true of the task of the two
-- files. What `list` prints is the text of the flat task of that task, by the definitions of binding and scaling.
pub record KeepsItsWord (call : Call) (status : ℕ) : Type 0 where
  pub optimal : (command : Solve) → call.command ≡ Some (solving command) → status ≡ 0 → IsOptimal call command
  pub unsolvable : status ≡ 10 → WhenSolving call (HasNoPlan call)
  pub spent : status ≡ 11 → WhenSolving call (IsBudgetSpent call)
  pub yes : (command : Check) → call.command ≡ Some (checking command) → status ≡ 0 → IsYes call command
  pub yes_comes : (command : Check) (claim : Limit) → call.command ≡ Some (checking command) → command.plan ≡ None → HoldsValid command claim call.before
      → HadNoFault call (checking command) → ((status ≡ 0) × Says call (Checked (Yes claim))) ⊎ (status ≡ 7)
  pub plan_yes_comes : (command : Check) (cost : ℕ) → call.command ≡ Some (checking command) → HoldsOptimal command cost call.before
      → HadNoFault call (checking command) → ((status ≡ 0) × Says call (Checked (YesPlan cost))) ⊎ (status ≡ 7)
  pub runs : (command : Run) → call.command ≡ Some (running command) → status ≡ 0 → IsPlanTold call command
  pub runs_not : (command : Run) → call.command ≡ Some (running command) → status ≡ 6 → IsNoPlanTold call command
  pub lists : (inputs : Inputs) → call.command ≡ Some (listing inputs) → status ≡ 0 → IsListTold call inputs
