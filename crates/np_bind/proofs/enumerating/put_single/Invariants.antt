use Rattle.std.proofs.Common.{◌≡◌, drop, take, length}
use Rattle.np_bind.specs.Trying.{choices, begun}
use Rattle.np_bind.proofs.enumerating.put_single.Given as goal

-- the lists before this place have one object each, which is put
abbrev pub invariant-loop-place : goal.invariant-loop-place
invariant-loop-place l =
    (begun l.fn.objects.items (choices l.lists) ≡ begun l.objects.items (choices (drop l.place l.lists)))
    × (take (length l.fn.objects.items) l.objects.items ≡ l.fn.objects.items)
