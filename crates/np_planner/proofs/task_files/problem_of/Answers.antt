use Rattle.std.proofs.Common.{Err, refl, sym, subst}
use Rattle.np_problem.specs.ProblemText.{IsProblem}
use Rattle.np_problem.specs.Problems.{problem_text, problem_marks}
use Rattle.np_answers.specs.declared.answer.File.TheVariants as file
use Rattle.np_answers.specs.declared.answer.Answer.{Answer}
use Rattle.np_planner.specs.TaskSteps.{IsNotSpelled}
use Rattle.np_planner.proofs.TaskEnds.{not_spelled}
use Rattle.np_planner.proofs.task_files.problem_of.Goals as goal

pub returns-in-Err : goal.returns-in-Err
returns-in-Err c =
    subst (λ (a : Answer). IsNotSpelled IsProblem problem_text file.Problem c.args.bytes.now a) (sym c.unspelled.ensures)
    (not_spelled IsProblem problem_text problem_marks file.Problem c.args.bytes.now (Err c.in-Err.fault) c.in-Err.ensures.fault c.in-Err.ensures.wide c.in-Err.ensures.refused c.in-Err.fault refl)
