use Rattle.std.proofs.Common.{◌≡◌, ◌++◌, None, drop}
use Rattle.np_names.specs.Declarations.{listed_under}
use Rattle.np_names.specs.Names.{repeats, texts}
use Rattle.np_names.proofs.declarations.put_untyped.Given as goal

-- the words that are left are still to be put, and what comes again is among them
abbrev pub invariant-loop-word : goal.invariant-loop-word
invariant-loop-word l =
    (l.initial.names ++ texts (listed_under None l.words) ≡ l.names ++ texts (listed_under None (drop l.word-index l.words)))
    × (repeats l.initial.names (listed_under None l.words) ≡ repeats l.names (listed_under None (drop l.word-index l.words)))
