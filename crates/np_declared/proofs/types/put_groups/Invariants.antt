use Rattle.std.proofs.Common.{◌++◌, List, Option, take}
use Rattle.np_words.specs.declared.word.Word.{Word}
use Rattle.np_declared.specs.LookUps.{HasSupertypes}
use Rattle.np_names.specs.Names.{typed_words}
use Rattle.np_declared.proofs.types.put_groups.Given as goal

-- the words of the groups so far are put after those before
abbrev pub invariant-loop-group : goal.invariant-loop-group
invariant-loop-group l =
    (before : List (Word × Option Word)) → HasSupertypes before l.initial.supertypes
    → HasSupertypes (before ++ typed_words (take l.group-index l.groups)) l.supertypes
