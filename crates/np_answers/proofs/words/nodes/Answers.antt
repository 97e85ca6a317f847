use Rattle.std.proofs.Common.{sym, ◌∙◌, arith}
use Rattle.np_answers.proofs.Numbers.{nodes_past}
use Rattle.np_answers.proofs.words.nodes.Goals as goal

pub returns-then-nodes-gt-MOST_NODES-clause-value : goal.returns-then-nodes-gt-MOST_NODES-clause-value
returns-then-nodes-gt-MOST_NODES-clause-value c =
    nodes_past c.args.word.now c.loop-byte.byte-index c.loop-byte.nodes c.loop-byte-test.true
    (sym c.is_ascii_digit.ensures.value ∙ c.if-not-is_ascii_digit.false)
    c.loop-byte.invariant.1
    (omega arith)
