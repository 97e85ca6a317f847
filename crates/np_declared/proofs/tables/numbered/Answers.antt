use Rattle.std.proofs.Common.{refl, []}
use Rattle.np_declared.specs.LookUps.{HasTables}
use Rattle.np_names.proofs.Answering.{memory_answers}
use Rattle.np_declared.proofs.HasTables.{has_tables}
use Rattle.np_declared.proofs.tables.numbered.Goals as goal

pub returns : goal.returns
returns c = (
  refl,
  has_tables c.args.domain.now c.args.problem.now c.args.types.list c.args.types.names c.args.names c.in_ok-objects.objects c.in_ok-predicates.predicates c.in_ok-functions.functions
      c.requires.types c.requires.type_names c.requires.names c.in_ok-objects.ensures (rw c.in_ok-named.ensures.1.0 at c.in_ok-predicates.ensures)
      (rw c.in_ok-named.ensures.1.1 at c.in_ok-functions.ensures),
)

pub returns-in_err-objects : goal.returns-in_err-objects
returns-in_err-objects c =
    memory_answers [] (HasTables c.args.domain.now c.args.problem.now) c.from_residual-in_err-objects.result c.from_residual-in_err-objects.ensures.1

pub returns-in_err-predicates : goal.returns-in_err-predicates
returns-in_err-predicates c =
    memory_answers [] (HasTables c.args.domain.now c.args.problem.now) c.from_residual-in_err-predicates.result c.from_residual-in_err-predicates.ensures.1

pub returns-in_err-functions : goal.returns-in_err-functions
returns-in_err-functions c =
    memory_answers [] (HasTables c.args.domain.now c.args.problem.now) c.from_residual-in_err-functions.result c.from_residual-in_err-functions.ensures.1
