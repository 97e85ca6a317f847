use Rattle.std.proofs.Common.{◌≡◌, ◌++◌, map, drop}
use Rattle.np_declared.proofs.tables.put_words.Given as goal

-- those of the words that are left are still to be put
abbrev pub invariant-loop-word : goal.invariant-loop-word
invariant-loop-word l =
    l.fn.objects ++ map (λ w. record { name = w.text; of = l.of }) l.words ≡ l.all ++ map (λ w. record { name = w.text; of = l.of }) (drop l.word-index l.words)
