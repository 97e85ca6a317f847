use Rattle.std.proofs.Common.{map, length, arith, sym, ◌∙◌}
use Rattle.np_simplex.proofs.Slots.{first_slot}
use Rattle.np_simplex.proofs.choice.next.Goals as goal

pub leaving-requires-clause-within : goal.leaving-requires-clause-within
leaving-requires-clause-within g c = omega (
  arith,
  c.len.ensures,
  c.as_slice.ensures.len,
  (first_slot c.as_slice.result.now (map g.A.N.Scalar.value c.as_slice-2.result.now) (length c.as_slice.result.now) c.in-Some.slot
      (sym c.entering.ensures ∙ c.in-Some.is)).within,
)
