use Rattle.std.proofs.Common.{◌≡◌, ◌++◌, map, drop}
use Rattle.np_declared.proofs.tables.put_numbers.Given as goal

-- those of the words that are left are still to be put
abbrev pub invariant-loop-word : goal.invariant-loop-word
invariant-loop-word l =
    l.fn.numbers ++ map (λ _. l.of) l.words ≡ l.all ++ map (λ _. l.of) (drop l._word-index l.words)
