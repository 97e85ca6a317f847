use Rattle.std.proofs.Common.{◌≡◌, ◌++◌, take, drop}
use Rattle.np_names.specs.Names.{repeats, texts}
use Rattle.np_names.proofs.names.put_words.Given as goal

-- the names so far are there, and what comes again is among the words that are left
abbrev pub invariant-loop-word : goal.invariant-loop-word
invariant-loop-word l =
    (l.names ≡ l.initial.names ++ texts (take l.word-index l.words)) × (repeats l.initial.names l.words ≡ repeats l.names (drop l.word-index l.words))
