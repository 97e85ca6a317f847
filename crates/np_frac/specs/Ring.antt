-- Equations between signed numbers, by their parts.
use Rattle.std.proofs.Common.{◌≡◌, ℕ, ◌+◌, ◌*◌, ℤ, pos, ◌+ℤ◌, ◌*ℤ◌, neg_ℤ, ap, arith, ◌<◌}
use Rattle.std.proofs.lemmas.Int.{ints}
use native.Mathlib.Nat.{eq_of_mul-eq-mul_right}
use borrow.Author.Differences.{up, down}

-- an expression over signed and natural numbers
pub data Form : Type 0 where
  var : ℤ → Form
  nat : ℕ → Form
  add : Form → Form → Form
  mul : Form → Form → Form
  neg : Form → Form

-- the number that a form stands for
abbrev pub value : Form → ℤ
value (var z) = z
value (nat n) = pos n
value (add a b) = value a +ℤ value b
value (mul a b) = value a *ℤ value b
value (neg a) = neg_ℤ (value a)

-- it is the first of these less the second
abbrev pub parts : Form → ℕ × ℕ
parts (var z) = (up z, down z)
parts (nat n) = (n, 0)
parts (add a b) = ((parts a).0 + (parts b).0, (parts a).1 + (parts b).1)
parts (mul a b) =
    ((parts a).0 * (parts b).0 + (parts a).1 * (parts b).1, (parts a).0 * (parts b).1 + (parts a).1 * (parts b).0)
parts (neg a) = ((parts a).1, (parts a).0)

-- the parts of a product
product : (x y : ℤ) (p q r s : ℕ) → up x + q ≡ down x + p → up y + s ≡ down y + r → up (x *ℤ y) + (p * s + q * r) ≡ down (x *ℤ y) + (p * r + q * s)
product x y p q r s e f = omega (arith, ints, ap (λ n. n * up y) e, ap (λ n. n * down y) e, ap (λ n. n * p) f, ap (λ n. n * q) f)

-- the value is the difference of the parts
pub parts-value : (f : Form) → up (value f) + (parts f).1 ≡ down (value f) + (parts f).0
parts-value (var z) = omega arith
parts-value (nat n) = omega arith
parts-value (add a b) = omega (arith, ints, parts-value a, parts-value b)
parts-value (mul a b) = product (value a) (value b) _ _ _ _ (parts-value a) (parts-value b)
parts-value (neg a) = omega (arith, ints, parts-value a)

-- two forms are equal where their parts are, across
pub ring : (f g : Form) → (parts f).0 + (parts g).1 ≡ (parts f).1 + (parts g).0 → value f ≡ value g
ring f g e = omega (arith, ints, parts-value f, parts-value g)

-- products can be bracketed anew
pub assoc : (a b c : ℤ) → (a *ℤ b) *ℤ c ≡ a *ℤ (b *ℤ c)
assoc a b c = ring (mul (mul (var a) (var b)) (var c)) (mul (var a) (mul (var b) (var c))) (omega arith)

-- a factor goes to both summands
pub spread : (a b c : ℤ) → (a +ℤ b) *ℤ c ≡ (a *ℤ c) +ℤ (b *ℤ c)
spread a b c = ring (mul (add (var a) (var b)) (var c)) (add (mul (var a) (var c)) (mul (var b) (var c))) (omega arith)

-- a positive factor can be cancelled
pub cancel : (a b : ℤ) (n : ℕ) → 0 < n → a *ℤ pos n ≡ b *ℤ pos n → a ≡ b
cancel a b n h e = omega (arith, ints, eq_of_mul-eq-mul_right n h (up a + down b) (up b + down a) (omega (arith, ints)))
