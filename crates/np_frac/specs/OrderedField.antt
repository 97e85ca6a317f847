-- The laws of an ordered field, of exact fractions.
use Rattle.std.specs.Prelude.{◌≡◌, pos, true, false}
use Rattle.std.specs.declared.cmp.Ordering.TheVariants.{Less, Equal}
use Rattle.std.specs.Cmp.{IsTotalOrder}
use Rattle.np_frac.specs.Fractions.{Fraction, whole, plus, minus, times, fraction_cmp}
use Rattle.np_frac.specs.Checked.{is_zero, reciprocal}

-- sums and products can be exchanged, bracketed anew and distributed, 0 and 1 are neutral and 0 is less, differences and quotients undo
-- sums and products, and a total order, in which only equal numbers tie, is kept by sums and by products with a number above 0
pub record OrderedField : Type 0 where
  pub plus_commutes : (a b : Fraction) → plus a b ≡ plus b a
  pub plus_associates : (a b c : Fraction) → plus (plus a b) c ≡ plus a (plus b c)
  pub plus_zero : (a : Fraction) → plus a (whole (pos 0)) ≡ a
  pub minus_undoes : (a b : Fraction) → plus (minus a b) b ≡ a
  pub times_commutes : (a b : Fraction) → times a b ≡ times b a
  pub times_associates : (a b c : Fraction) → times (times a b) c ≡ times a (times b c)
  pub times_one : (a : Fraction) → times a (whole (pos 1)) ≡ a
  pub times_distributes : (a b c : Fraction) → times a (plus b c) ≡ plus (times a b) (times a c)
  pub reciprocal_undoes : (a : Fraction) → is_zero a ≡ false → times a (reciprocal a) ≡ whole (pos 1)
  pub zero_is : (a : Fraction) → is_zero a ≡ true → a ≡ whole (pos 0)
  pub total : IsTotalOrder fraction_cmp
  pub equal_is_same : (a b : Fraction) → fraction_cmp a b ≡ Equal → a ≡ b
  pub zero_below_one : fraction_cmp (whole (pos 0)) (whole (pos 1)) ≡ Less
  pub plus_keeps_order : (a b c : Fraction) → fraction_cmp (plus a c) (plus b c) ≡ fraction_cmp a b
  pub times_keeps_order : (a b c : Fraction) → fraction_cmp (whole (pos 0)) c ≡ Less → fraction_cmp (times a c) (times b c) ≡ fraction_cmp a b
