use Rattle.std.proofs.Common.{◌<◌, map, length, arith, sym, ◌∙◌, rules}
use Rattle.np_simplex.proofs.Slots.{first_slot}
use Rattle.np_simplex.proofs.choice.earlier.Goals as goal

pub offset_bounds-columns-b : goal.offset_bounds-columns-b
offset_bounds-columns-b g c =
    let l : c.in-Some.b < length c.args.columns.now = omega (
      arith,
      c.requires.slot,
      (first_slot c.args.columns.now (map g.N.Scalar.value c.args.top.now) c.args.k c.in-Some.b (sym c.requires.so_far
          ∙ c.in-Some.is)).within,
    ) in search rules

pub bounds-columns-b : goal.bounds-columns-b
bounds-columns-b g c = omega (
  arith,
  c.requires.slot,
  (first_slot c.args.columns.now (map g.N.Scalar.value c.args.top.now) c.args.k c.in-Some.b (sym c.requires.so_far ∙ c.in-Some.is)).within,
)
