use Rattle.std.proofs.Common.{◌≡◌, filter, drop}
use Rattle.np_declared.specs.TypeRules.{is_cyclic}
use Rattle.np_declared.proofs.types.acyclic_group.Given as goal

-- types under themselves are among the words that are left
abbrev pub invariant-loop-word : goal.invariant-loop-word
invariant-loop-word l =
    filter (is_cyclic l.types l.group.of) l.group.words ≡ filter (is_cyclic l.types l.group.of) (drop l.word-index l.word-items)
