use Rattle.std.proofs.Common.{◌≡◌, drop}
use Rattle.np_bind.specs.Looking.{look_past}
use Rattle.np_bind.proofs.looking.look_past.Given as goal

-- all before this place pass
abbrev pub invariant-loop-place : goal.invariant-loop-place
invariant-loop-place l = look_past l.known.task l.objects l.conditions ≡ look_past l.known.task l.objects (drop l.place l.conditions)
