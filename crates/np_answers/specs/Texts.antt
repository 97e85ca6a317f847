-- The texts and the statuses of the answers.
use Rattle.std.specs.Prelude.{ℕ, ◌==◌, List, [], ◌++◌, codes, decimal, if◌then◌else◌}
use Rattle.np_frac.specs.Fractions.{Fraction}
use Rattle.np_lex.specs.declared.token.Place.{Place}
use Rattle.np_names.specs.declared.fault.Source.{Source}
use Rattle.np_names.specs.declared.fault.Source.TheVariants as source
use Rattle.np_names.specs.declared.fault.TypeWhy.{TypeWhy}
use Rattle.np_names.specs.declared.fault.TypeWhy.TheVariants as why
use Rattle.np_run.specs.declared.answers.RunEnd.{RunEnd}
use Rattle.np_run.specs.declared.answers.RunEnd.TheVariants.{Goal, NoGoal, Stuck, NoCost}
use Rattle.np_cert.specs.Text.{integer_text}
use Rattle.np_cert.specs.declared.certificate.Limit.TheVariants.{Number, Absent}
use Rattle.np_answers.specs.declared.answer.File.{File}
use Rattle.np_answers.specs.declared.answer.File.TheVariants.{Domain, Problem, Certificate, Plan}
use Rattle.np_answers.specs.declared.answer.refusal.Refusal.{Refusal}
use Rattle.np_answers.specs.declared.answer.refusal.Refusal.TheVariants.{TooLong, Syntax, NumberWide, Typing, StampOrder, UnknownStep, StepWide, Task, AtSpot}
use Rattle.np_answers.specs.declared.answer.refusal.TaskReason.{TaskReason}
use Rattle.np_answers.specs.declared.answer.refusal.TaskReason.TheVariants as task
use Rattle.np_answers.specs.declared.answer.refusal.SpotReason.{SpotReason}
use Rattle.np_answers.specs.declared.answer.refusal.SpotReason.TheVariants as spot
use Rattle.np_answers.specs.declared.answer.solve.SolveAnswer.{SolveAnswer}
use Rattle.np_answers.specs.declared.answer.solve.SolveAnswer.TheVariants.{Optimal, Unsolvable, Spent}
use Rattle.np_answers.specs.declared.answer.check.CheckAnswer.{CheckAnswer}
use Rattle.np_answers.specs.declared.answer.check.CheckAnswer.TheVariants.{Yes, YesPlan, No}
use Rattle.np_answers.specs.declared.answer.check.Fault.{Fault}
use Rattle.np_answers.specs.declared.answer.check.Fault.TheVariants.{ProofFails, Repeats, Unjustified, ClaimAbove, Stuck as PlanStuck, NoGoal as PlanNoGoal, OtherCost}
use Rattle.np_answers.specs.declared.answer.Answer.{Answer}
use Rattle.np_answers.specs.declared.answer.Answer.TheVariants.{Usage, CannotRead, Refused, Solved, Checked, Ran, Listed, CannotWrite, OutOfMemory}

abbrev pub name_of : File → List ℕ
name_of Domain = codes "domain"
name_of Problem = codes "problem"
name_of Certificate = codes "certificate"
name_of Plan = codes "plan"

-- the line and the column of the place are counted from 1
abbrev pub text_at : File → Place → List ℕ → List ℕ
text_at file place why =
    codes "Refused: " ++ name_of file ++ codes " " ++ decimal place.line ++ codes ":" ++ decimal place.column ++ codes " " ++ why ++ codes "\n"

abbrev pub file_of : Source → File
file_of source.Domain = Domain
file_of source.Problem = Problem

abbrev pub rule_text : TypeWhy → List ℕ
rule_text why.SectionTwice = codes "section twice"
rule_text why.SectionMissing = codes "section missing"
rule_text why.OtherDomain = codes "other domain"
rule_text why.NameTwice = codes "name twice"
rule_text why.TypeCycle = codes "type cycle"
rule_text why.UnknownType = codes "unknown type"
rule_text why.UnknownPredicate = codes "unknown predicate"
rule_text why.UnknownFunction = codes "unknown function"
rule_text why.UnknownName = codes "unknown name"
rule_text why.Unbound = codes "unbound"
rule_text why.WrongArity = codes "wrong arity"
rule_text why.WrongType = codes "wrong type"
rule_text why.ValueTwice = codes "value twice"
rule_text why.AmountNotStatic = codes "amount not static"

abbrev pub task_reason_text : TaskReason → List ℕ
task_reason_text task.TooManyBindings = codes "too many bindings"
task_reason_text task.TooManySteps = codes "too many steps"
task_reason_text task.TooManyFacts = codes "too many facts"
task_reason_text task.TooManyValues = codes "too many values"
task_reason_text task.TooManySubgoals = codes "too many subgoals"
task_reason_text task.UnitWide = codes "unit wide"
task_reason_text task.GoalUndefined = codes "goal undefined"
task_reason_text task.MetricUndefined = codes "metric undefined"

abbrev pub spot_reason_text : SpotReason → List ℕ
spot_reason_text spot.NotLinear = codes "not linear"
spot_reason_text spot.NumberWide = codes "number wide"
spot_reason_text spot.FormLong = codes "form long"
spot_reason_text spot.CostNegative = codes "cost negative"
spot_reason_text spot.CostNotWhole = codes "cost not whole"
spot_reason_text spot.CostWide = codes "cost wide"

abbrev pub refusal_text : Refusal → List ℕ
refusal_text (TooLong file) = codes "Refused: " ++ name_of file ++ codes " too long\n"
refusal_text (Syntax file place) = text_at file place (codes "syntax")
refusal_text (NumberWide file place) = text_at file place (codes "number wide")
refusal_text (Typing text place rule) = text_at (file_of text) place (rule_text rule)
refusal_text (StampOrder place) = text_at Plan place (codes "stamp order")
refusal_text (UnknownStep place) = text_at Plan place (codes "unknown step")
refusal_text (StepWide step) = codes "Refused: number wide: plan step " ++ decimal step ++ codes "\n"
refusal_text (Task reason) = codes "Refused: " ++ task_reason_text reason ++ codes "\n"
refusal_text (AtSpot reason text) = codes "Refused: " ++ spot_reason_text reason ++ codes ": " ++ text ++ codes "\n"

abbrev pub solve_text : SolveAnswer → List ℕ
solve_text (Optimal cost) = codes "Optimal " ++ decimal cost ++ codes ", weak 0\n"
solve_text Unsolvable = codes "Unsolvable, weak 0\n"
solve_text (Spent nodes bound) = codes "Budget spent " ++ decimal nodes ++ codes ", bound " ++ decimal bound ++ codes ", weak 0\n"

abbrev pub fault_text : Fault → List ℕ
fault_text (ProofFails proof) = codes "No: proof " ++ decimal proof ++ codes " fails\n"
fault_text (Repeats entry) = codes "No: entry " ++ decimal entry ++ codes " repeats a state\n"
fault_text (Unjustified entry) = codes "No: entry " ++ decimal entry ++ codes " is not justified\n"
fault_text ClaimAbove = codes "No: the claim is above the start's bound\n"
fault_text (PlanStuck step) = codes "No: step " ++ decimal step ++ codes " is not applicable\n"
fault_text PlanNoGoal = codes "No: the goal does not hold at the end\n"
fault_text (OtherCost cost claim) = codes "No: the plan costs " ++ decimal cost ++ codes " and the claim is " ++ decimal claim ++ codes "\n"

abbrev pub check_text : CheckAnswer → List ℕ
check_text (Yes (Number claim)) = codes "Yes: no plan costs less than " ++ decimal claim ++ codes "\n"
check_text (Yes Absent) = codes "Yes: there is no plan\n"
check_text (YesPlan cost) = codes "Yes: the plan costs " ++ decimal cost ++ codes " and no plan costs less\n"
check_text (No fault) = fault_text fault

-- a whole number, or a fraction in lowest terms
abbrev pub cost_text : Fraction → List ℕ
cost_text cost =
    codes "Plan, cost " ++ integer_text cost.num ++ (if cost.den == 1 then [] else codes "/" ++ decimal cost.den) ++ codes "\n"

abbrev pub run_text : RunEnd → List ℕ
run_text (Goal cost) = cost_text cost
run_text NoGoal = codes "Not a plan: the goal does not hold at the end\n"
run_text (Stuck step) = codes "Not a plan: step " ++ decimal step ++ codes " is not applicable\n"
run_text (NoCost step) = codes "Not a plan: step " ++ decimal step ++ codes " has no cost\n"

abbrev pub text_of : Answer → List ℕ
text_of Usage = codes "usage: solve DOMAIN PROBLEM PLAN CERT [NODES]\n       check DOMAIN PROBLEM CERT [PLAN]\n       run DOMAIN PROBLEM PLAN\n       list DOMAIN PROBLEM\n"
text_of (CannotRead file) = codes "Refused: cannot read " ++ name_of file ++ codes "\n"
text_of (Refused refusal) = refusal_text refusal
text_of (Solved answer) = solve_text answer
text_of (Checked answer) = check_text answer
text_of (Ran end) = run_text end
text_of (Listed text) = text
text_of (CannotWrite file) = codes "Refused: cannot write " ++ name_of file ++ codes "\n"
text_of OutOfMemory = codes "Out of memory\n"

abbrev pub solve_status : SolveAnswer → ℕ
solve_status (Optimal cost) = 0
solve_status Unsolvable = 10
solve_status (Spent nodes bound) = 11

abbrev pub check_status : CheckAnswer → ℕ
check_status (Yes claim) = 0
check_status (YesPlan cost) = 0
check_status (No fault) = 6

abbrev pub run_status : RunEnd → ℕ
run_status (Goal cost) = 0
run_status end = 6

abbrev pub status_of : Answer → ℕ
status_of Usage = 2
status_of (Refused refusal) = 3
status_of (CannotRead file) = 4
status_of (CannotWrite file) = 5
status_of OutOfMemory = 7
status_of (Solved answer) = solve_status answer
status_of (Checked answer) = check_status answer
status_of (Ran end) = run_status end
status_of (Listed text) = 0
