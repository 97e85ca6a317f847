use Rattle.std.proofs.Common.{◌∙◌, ap}
use Rattle.std.specs.Prelude.{nat_lt}
use Rattle.std.specs.List.{insert, position_or_len}
use Rattle.np_scale.proofs.Places.{in_place_inserted}
use Rattle.np_scale.proofs.place.put_in_place.Goals as goal

pub returns : goal.returns
returns g c =
    c.in_ok-insert.ensures.items
    ∙ ap (λ n. insert c.args.pairs.now.items n (c.args.number, c.args.value)) (c.place_for-place.ensures.place ∙ ap (position_or_len (λ p. nat_lt c.args.number p.0)) c.as_slice.ensures.value)
    ∙ in_place_inserted (c.args.number, c.args.value) c.args.pairs.now.items
