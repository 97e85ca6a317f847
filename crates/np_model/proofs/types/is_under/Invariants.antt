use Rattle.std.proofs.Common.{◌≡◌, ◌-◌, length}
use Rattle.np_model.specs.Types.{leads_within}
use Rattle.np_model.proofs.types.is_under.Given as goal

abbrev pub invariant-loop-hop : goal.invariant-loop-hop
invariant-loop-hop l = leads_within l.types (length l.types) l.of l.over ≡ leads_within l.types (length l.types - l.hop) l.at l.over
