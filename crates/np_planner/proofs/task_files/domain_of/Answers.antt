use Rattle.std.proofs.Common.{Err, refl, sym, subst}
use Rattle.np_syntax.specs.Domains.{IsDomain, domain_text, domain_marks}
use Rattle.np_answers.specs.declared.answer.File.TheVariants as file
use Rattle.np_answers.specs.declared.answer.Answer.{Answer}
use Rattle.np_planner.specs.TaskSteps.{IsNotSpelled}
use Rattle.np_planner.proofs.TaskEnds.{not_spelled}
use Rattle.np_planner.proofs.task_files.domain_of.Goals as goal

pub returns-in-Err : goal.returns-in-Err
returns-in-Err c =
    subst (λ (a : Answer). IsNotSpelled IsDomain domain_text file.Domain c.args.bytes.now a) (sym c.unspelled.ensures)
    (not_spelled IsDomain domain_text domain_marks file.Domain c.args.bytes.now (Err c.in-Err.fault) c.in-Err.ensures.fault c.in-Err.ensures.wide c.in-Err.ensures.refused c.in-Err.fault refl)
