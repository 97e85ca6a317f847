use Rattle.std.proofs.Common.{◌≡◌, take}
use Rattle.np_names.specs.Names.{texts, words_of, firsts}
use Rattle.np_typing.proofs.uses.actions.variables.Given as goal

-- the names of the groups so far
abbrev pub invariant-loop-group : goal.invariant-loop-group
invariant-loop-group l = l.names ≡ firsts (texts (words_of (take l.group-index l.groups)))
