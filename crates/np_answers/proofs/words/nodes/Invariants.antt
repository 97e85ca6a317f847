use Rattle.std.proofs.Common.{◌≡◌, ◌≤◌, ◌^◌, ◌<◌, drop}
use Rattle.np_answers.specs.Words.{number_from}
use Rattle.np_answers.proofs.words.nodes.Given as goal

abbrev pub invariant-loop-byte : goal.invariant-loop-byte
invariant-loop-byte l =
    (l.nodes ≤ 2 ^ 24) × (number_from 0 l.word ≡ number_from l.nodes (drop l.byte-index l.word)) × (0 < l.byte-index → 1 ≤ l.nodes)
