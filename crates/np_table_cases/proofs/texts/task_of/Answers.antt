use Rattle.std.proofs.Common.{arith}
use Rattle.np_typing.proofs.SpelledPairs.{spelled_pair}
use Rattle.np_table_cases.proofs.texts.task_of.Goals as goal

pub resolve-requires : goal.resolve-requires
resolve-requires c =
    spelled_pair c.as_bytes-domain.result.now c.as_bytes-problem.result.now c.in-Ok.domain c.in-Ok-read_problem.problem c.in-Ok.ensures.spelled c.in-Ok-read_problem.ensures.spelled
    (omega (arith, c.if-domain-gt-MOST_BYTES.false)) (omega (arith, c.if-problem-gt-MOST_BYTES.false))
