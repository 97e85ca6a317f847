use Rattle.std.proofs.Common.{sym, ◌∙◌}
use Rattle.np_conditions.proofs.ConditionLexing.{comparison_missing, comparison_refused, comparison_taken}
use Rattle.np_conditions.proofs.read.conditions.comparison.Goals as goal

pub returns-in_default-clause-none : goal.returns-in_default-clause-none
returns-in_default-clause-none c = comparison_missing c.args.lexer.now c.take_kind.new.lexer c.in_default.ensures.other

pub returns-in_default-op_in-clause-none : goal.returns-in_default-op_in-clause-none
returns-in_default-op_in-clause-none c =
    let found = c.in-Some.found in
    comparison_refused c.args.lexer.now c.take_kind.new.lexer found.kind found.text.now found.place c.in-Some.ensures.kind c.in-Some.ensures.taken (sym c.op_in.ensures ∙ c.in_default-op_in.is)

pub returns-clause-some : goal.returns-clause-some
returns-clause-some c =
    let found = c.in-Some.found in
    comparison_taken c.args.lexer.now c.take_kind.new.lexer found.kind found.text.now found.place c.in-Some.ensures.kind c.in-Some.ensures.taken c.in-Some-op_in.op (sym c.op_in.ensures ∙ c.in-Some-op_in.is)
