use Rattle.std.proofs.Common.{◌≡◌, ◌++◌, drop}
use Rattle.np_names.specs.Names.{repeats, texts, words_of}
use Rattle.np_names.proofs.names.put_groups.Given as goal

-- the words that are left are still to be put, and what comes again is among them
abbrev pub invariant-loop-group : goal.invariant-loop-group
invariant-loop-group l =
    (l.initial.names ++ texts (words_of l.groups) ≡ l.names ++ texts (words_of (drop l.group-index l.groups)))
    × (repeats l.initial.names (words_of l.groups) ≡ repeats l.names (words_of (drop l.group-index l.groups)))
