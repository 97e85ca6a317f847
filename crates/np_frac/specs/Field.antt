-- Equations between fractions, by their numerators and denominators.
use Rattle.std.proofs.Common.{◌≡◌, ℕ, ◌+◌, ◌*◌, ◌<◌, ℤ, pos, ◌+ℤ◌, ◌*ℤ◌, refl, sym, ◌∙◌, ap, arith, lit<}
use Rattle.std.specs.Prelude.{◌-ℤ◌}
use Rattle.std.proofs.lemmas.Int.{ints}
use native.Mathlib.Nat.{mul-pos}
use Rattle.np_frac.specs.Fractions.{Fraction, over, plus, minus, times, whole}
use Rattle.np_frac.specs.Ring.{Form, var, nat, add, mul, neg, parts, value, ring}
use Rattle.np_frac.specs.Laws.{den_of, over_parts, over_equal, plus-over, minus-over, times-over, whole-over}

-- an expression over fractions and whole numbers
pub data Sum : Type 0 where
  frac : Fraction → Sum
  int : ℤ → Sum
  sum : Sum → Sum → Sum
  rest : Sum → Sum → Sum
  product : Sum → Sum → Sum

-- its exact value
abbrev pub amount : Sum → Fraction
amount (frac a) = a
amount (int n) = whole n
amount (sum a b) = plus (amount a) (amount b)
amount (rest a b) = minus (amount a) (amount b)
amount (product a b) = times (amount a) (amount b)

-- a denominator of the value, not in lowest terms
abbrev pub bottom : Sum → ℕ
bottom (frac a) = a.den
bottom (int n) = 1
bottom (sum a b) = bottom a * bottom b
bottom (rest a b) = bottom a * bottom b
bottom (product a b) = bottom a * bottom b

-- the numerator over that denominator
abbrev pub top : Sum → Form
top (frac a) = var a.num
top (int n) = var n
top (sum a b) = add (mul (top a) (nat (bottom b))) (mul (top b) (nat (bottom a)))
top (rest a b) = add (mul (top a) (nat (bottom b))) (mul (neg (top b)) (nat (bottom a)))
top (product a b) = mul (top a) (top b)

-- the denominator is positive
pub bottom_pos : (s : Sum) → 0 < bottom s
bottom_pos (frac a) = den_of a
bottom_pos (int n) = lit< tt
bottom_pos (sum a b) = mul-pos (bottom_pos a) (bottom_pos b)
bottom_pos (rest a b) = mul-pos (bottom_pos a) (bottom_pos b)
bottom_pos (product a b) = mul-pos (bottom_pos a) (bottom_pos b)

-- the value is the numerator over the denominator
pub amount_is : (s : Sum) → amount s ≡ over (value (top s)) (bottom s)
amount_is (frac a) = sym (over_parts a)
amount_is (int n) = whole-over n
amount_is (sum a b) = ap (λ x. plus x (amount b)) (amount_is a) ∙ ap (λ x. plus (over (value (top a)) (bottom a)) x) (amount_is b) ∙ plus-over _ _ _ _ (bottom_pos a) (bottom_pos b)
amount_is (rest a b) = ap (λ x. minus x (amount b)) (amount_is a) ∙ ap (λ x. minus (over (value (top a)) (bottom a)) x) (amount_is b) ∙ minus-over _ _ _ _ (bottom_pos a) (bottom_pos b)
amount_is (product a b) = ap (λ x. times x (amount b)) (amount_is a) ∙ ap (λ x. times (over (value (top a)) (bottom a)) x) (amount_is b) ∙ times-over _ _ _ _ (bottom_pos a) (bottom_pos b)

-- two sums are equal where their parts are, crossed
pub field : (s t : Sum) → (parts (mul (top s) (nat (bottom t)))).0 + (parts (mul (top t) (nat (bottom s)))).1 ≡ (parts (mul (top s) (nat (bottom t)))).1 + (parts (mul (top t) (nat (bottom s)))).0 → amount s ≡ amount t
field s t e =
    amount_is s ∙ over_equal _ _ _ _ (bottom_pos s) (bottom_pos t) (ring (mul (top s) (nat (bottom t))) (mul (top t) (nat (bottom s))) e) ∙ sym (amount_is t)

-- sums can be bracketed anew
pub plus_assoc : (a b c : Fraction) → plus (plus a b) c ≡ plus a (plus b c)
plus_assoc a b c = field (sum (sum (frac a) (frac b)) (frac c)) (sum (frac a) (sum (frac b) (frac c))) (omega arith)

-- summands can be exchanged
pub plus_comm : (a b : Fraction) → plus a b ≡ plus b a
plus_comm a b = field (sum (frac a) (frac b)) (sum (frac b) (frac a)) (omega arith)

-- 0 adds nothing
pub plus-zero : (a : Fraction) → plus a (whole (pos 0)) ≡ a
plus-zero a = field (sum (frac a) (int (pos 0))) (frac a) (omega arith)

-- adding what was taken away gives back the first
pub plus-minus : (a b : Fraction) → plus (minus a b) b ≡ a
plus-minus a b = field (sum (rest (frac a) (frac b)) (frac b)) (frac a) (omega arith)

-- the differences of two steps make the difference of both
pub minus_telescopes : (a b c : Fraction) → plus (minus b a) (minus c b) ≡ minus c a
minus_telescopes a b c = field (sum (rest (frac b) (frac a)) (rest (frac c) (frac b))) (rest (frac c) (frac a)) (omega arith)

-- a factor goes to both summands
pub times-plus : (a b c : Fraction) → times a (plus b c) ≡ plus (times a b) (times a c)
times-plus a b c = field (product (frac a) (sum (frac b) (frac c))) (sum (product (frac a) (frac b)) (product (frac a) (frac c))) (omega arith)

-- products can be bracketed anew
pub times_assoc : (a b c : Fraction) → times (times a b) c ≡ times a (times b c)
times_assoc a b c = field (product (product (frac a) (frac b)) (frac c)) (product (frac a) (product (frac b) (frac c))) (omega arith)

-- factors can be exchanged
pub times_comm : (a b : Fraction) → times a b ≡ times b a
times_comm a b = field (product (frac a) (frac b)) (product (frac b) (frac a)) (omega arith)

-- the factor 1 changes nothing
pub times-one : (a : Fraction) → times a (whole (pos 1)) ≡ a
times-one a = field (product (frac a) (int (pos 1))) (frac a) (omega arith)

-- a leading 0 adds nothing
pub plus_left_zero : (a : Fraction) → plus (whole (pos 0)) a ≡ a
plus_left_zero a = field (sum (int (pos 0)) (frac a)) (frac a) (omega arith)

-- taking 0 away changes nothing
pub minus_zero : (a : Fraction) → minus a (whole (pos 0)) ≡ a
minus_zero a = field (rest (frac a) (int (pos 0))) (frac a) (omega arith)

-- a number less itself is 0
pub minus_self : (a : Fraction) → minus a a ≡ whole (pos 0)
minus_self a = field (rest (frac a) (frac a)) (int (pos 0)) (omega arith)

-- taking away what was added gives back the first
pub minus_plus : (a b : Fraction) → minus (plus a b) b ≡ a
minus_plus a b = field (rest (sum (frac a) (frac b)) (frac b)) (frac a) (omega arith)

-- the negated difference is the difference the other way round
pub minus_swapped : (a b : Fraction) → minus (whole (pos 0)) (minus a b) ≡ minus b a
minus_swapped a b = field (rest (int (pos 0)) (rest (frac a) (frac b))) (rest (frac b) (frac a)) (omega arith)

-- a factor goes to both sides of a difference
pub times_minus : (a b c : Fraction) → times a (minus b c) ≡ minus (times a b) (times a c)
times_minus a b c = field (product (frac a) (rest (frac b) (frac c))) (rest (product (frac a) (frac b)) (product (frac a) (frac c))) (omega arith)

-- the factor 0 makes 0
pub times_zero : (a : Fraction) → times a (whole (pos 0)) ≡ whole (pos 0)
times_zero a = field (product (frac a) (int (pos 0))) (int (pos 0)) (omega arith)

-- 0 times a number is 0
pub zero_times : (a : Fraction) → times (whole (pos 0)) a ≡ whole (pos 0)
zero_times a = field (product (int (pos 0)) (frac a)) (int (pos 0)) (omega arith)

-- the same summand on both sides can be left out
pub plus_cancels : (a b c : Fraction) → plus a c ≡ plus b c → a ≡ b
plus_cancels a b c e = sym (minus_plus a c) ∙ ap (λ x. minus x c) e ∙ minus_plus b c

-- ---- whole numbers

-- the sum of whole numbers is the whole number of their sum
pub whole_plus : (a b : ℤ) → plus (whole a) (whole b) ≡ whole (a +ℤ b)
whole_plus a b = field (sum (int a) (int b)) (int (a +ℤ b)) (omega (arith, ints))

-- so is their difference
pub whole_minus : (a b : ℤ) → minus (whole a) (whole b) ≡ whole (a -ℤ b)
whole_minus a b = field (rest (int a) (int b)) (int (a -ℤ b)) (omega (arith, ints))

-- and their product
pub whole_times : (a b : ℤ) → times (whole a) (whole b) ≡ whole (a *ℤ b)
whole_times a b = field (product (int a) (int b)) (int (a *ℤ b)) (omega (arith, ints))

-- the numerator of a whole number
pub whole_num : (a : ℤ) → (whole a).num ≡ a
unfolding whole
whole_num a = refl

-- its denominator
pub whole_den : (a : ℤ) → (whole a).den ≡ 1
unfolding whole
whole_den a = refl

-- a whole number is told by its fraction
pub same_whole : (a b : ℤ) → whole a ≡ whole b → a ≡ b
same_whole a b e = sym (whole_num a) ∙ ap (λ f. f.num) e ∙ whole_num b
