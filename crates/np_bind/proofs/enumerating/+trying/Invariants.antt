use Rattle.std.proofs.Common.{◌≡◌, ◌+◌, ◌*◌, length}
use Rattle.np_bind.specs.Trying.{choices, begun, kept_with}
use Rattle.np_bind.proofs.Trying.{lists_from}
use Rattle.np_bind.proofs.enumerating.+trying.Given as goal

-- the objects of the list that are left are tried after these kept steps
abbrev pub invariant-try_lists-loop-object : goal.invariant-try_lists-loop-object
invariant-try_lists-loop-object l =
    (kept_with l.trial l.fn.kept (begun l.fn.objects.items (choices l.lists)) ≡ kept_with l.trial l.kept (begun l.fn.objects.items (lists_from l.object-items l.rest l.object-index)))
    × (l.objects.items ≡ l.fn.objects.items)

abbrev pub decreases-try_all : goal.decreases-try_all
decreases-try_all l = 3 * length l.lists.now + 2

abbrev pub decreases-try_lists : goal.decreases-try_lists
decreases-try_lists l = 3 * length l.lists.now + 1

abbrev pub decreases-try_object : goal.decreases-try_object
decreases-try_object l = 3 * length l.lists.now + 3
