use Rattle.std.proofs.Common.{◌++◌, List, Option, Some, take}
use Rattle.np_words.specs.declared.word.Word.{Word}
use Rattle.np_declared.specs.LookUps.{HasSupertypes}
use Rattle.np_names.specs.Names.{typed}
use Rattle.np_declared.proofs.types.put_words.Given as goal

-- the words so far are put after those before
abbrev pub invariant-loop-word : goal.invariant-loop-word
invariant-loop-word l =
    (before : List (Word × Option Word)) → HasSupertypes before l.initial.supertypes
    → HasSupertypes (before ++ typed (Some l.over) (take l.word-index l.words)) l.supertypes
