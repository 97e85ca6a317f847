use Rattle.std.proofs.Common.{◌≡◌, take, drop}
use Rattle.np_typing.specs.Uses.{arguments_faults}
use Rattle.np_typing.specs.Resolved.{refs_of}
use Rattle.np_typing.proofs.uses.calls.arguments.Given as goal

-- no fault so far, and what the arguments stand for so far
abbrev pub invariant-loop-place : goal.invariant-loop-place
invariant-loop-place l = record {
  left : arguments_faults l.scope l.wanted l.idents ≡ arguments_faults l.scope (drop l.place l.wanted) (drop l.place l.idents);
  so_far : l.refs ≡ refs_of l.scope (take l.place l.idents);
}
