-- Exact fractions are an ordered field.
use Rattle.std.proofs.Common.{◌≡◌, ℕ, ℤ, pos, ◌*ℤ◌, ◌<ℤ◌, sym, arith}
use Rattle.std.specs.declared.cmp.Ordering.TheVariants.{Less}
use Rattle.std.proofs.lemmas.Cmp.{int_ranked}
use Rattle.std.proofs.lemmas.Int.{ints}
use Rattle.np_frac.specs.Fractions.{Fraction, whole, fraction_cmp}
use Rattle.np_frac.specs.Field.{plus_comm, plus_assoc, plus-zero, plus-minus, times_comm, times_assoc, times-one, times-plus}
use Rattle.np_frac.specs.Quotients.{zero_is, times_reciprocal}
use Rattle.np_frac.specs.Order.{fraction_cmp_total, same_from_cmp, cmp_plus, cmp_times, whole_cmp}
use Rattle.np_frac.specs.OrderedField.{OrderedField}

-- what is above 0 has a numerator above 0
above_0 : (c : Fraction) → fraction_cmp (whole (pos 0)) c ≡ Less → pos 0 <ℤ c.num
unfolding whole
above_0 c f = below c.num c.den (int_ranked (pos 0 *ℤ pos c.den) (c.num *ℤ pos 1) Less (sym f))
  where
    below : (n : ℤ) (d : ℕ) → (pos 0 *ℤ pos d) <ℤ (n *ℤ pos 1) → pos 0 <ℤ n
    below n d l = omega (arith, ints)

pub ordered_field : OrderedField
ordered_field = record {
  plus_commutes = plus_comm;
  plus_associates = plus_assoc;
  plus_zero = plus-zero;
  minus_undoes = plus-minus;
  times_commutes = times_comm;
  times_associates = times_assoc;
  times_one = times-one;
  times_distributes = times-plus;
  reciprocal_undoes = times_reciprocal;
  zero_is = zero_is;
  total = fraction_cmp_total;
  equal_is_same = same_from_cmp;
  zero_below_one = whole_cmp (pos 0) (pos 1);
  plus_keeps_order = cmp_plus;
  times_keeps_order = λ a b c h. cmp_times a b c (above_0 c h);
}
