use Rattle.std.proofs.Common.{◌≡◌, drop, fold}
use Rattle.np_names.specs.Names.{with_name, texts}
use Rattle.np_names.proofs.names.Names.add_words.Given as goal

-- the words that are left are still to be added
abbrev pub invariant-loop-word : goal.invariant-loop-word
invariant-loop-word l =
    fold with_name l.initial.self (texts l.words) ≡ fold with_name l.self (texts (drop l.word-index l.words))
