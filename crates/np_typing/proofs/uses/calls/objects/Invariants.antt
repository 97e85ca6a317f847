use Rattle.std.proofs.Common.{◌≡◌, take, drop, map}
use Rattle.np_words.specs.declared.word.Ident.TheVariants as ident
use Rattle.np_typing.specs.Uses.{arguments_faults}
use Rattle.np_typing.specs.Facts.{objects_of}
use Rattle.np_typing.proofs.uses.calls.objects.Given as goal

-- no fault so far, and what the arguments stand for so far
abbrev pub invariant-loop-place : goal.invariant-loop-place
invariant-loop-place l = record {
  left : arguments_faults l.scope l.wanted (map ident.Name l.words) ≡ arguments_faults l.scope (drop l.place l.wanted) (drop l.place (map ident.Name l.words));
  so_far : l.objects ≡ objects_of l.scope (take l.place l.words);
}
