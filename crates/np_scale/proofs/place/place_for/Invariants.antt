use Rattle.std.proofs.Common.{◌≡◌, ◌+◌, drop}
use Rattle.std.specs.Prelude.{nat_lt}
use Rattle.std.specs.List.{position_or_len}
use Rattle.np_scale.proofs.place.place_for.Given as goal

abbrev pub invariant-loop-place : goal.invariant-loop-place
invariant-loop-place g l = position_or_len (λ p. nat_lt l.number p.0) l.pairs ≡ l.place + position_or_len (λ p. nat_lt l.number p.0) (drop l.place l.pairs)
