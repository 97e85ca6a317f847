-- Expressions by how they are read, and by their parts.
use Rattle.std.proofs.Common.{◌≡◌, ◌≤◌, ◌⊎◌, inl, inr, List, [], ◌∷◌, length, Option, None, Some, refl, sym, subst, ◌∙◌, arith}
use Rattle.std.specs.List.{All}
use Rattle.std.proofs.lemmas.List.Elements.{All-cons, All-head, All-tail}
use Rattle.np_read.proofs.PlacedParts.{MadeOr, MadeOf}
use Rattle.np_read.proofs.Spelled.{Made, GoodPair, HasOne}
use Rattle.np_words.specs.declared.word.Word.{Word}
use Rattle.np_words.specs.declared.word.Ident.{Ident}
use Rattle.np_words.specs.declared.word.Decimal.{Decimal}
use Rattle.np_words.specs.declared.expr.Expr.{Expr, out-Expr}
use Rattle.np_words.specs.declared.expr.Expr.TheOpen.{Expr-F}
use Rattle.np_words.specs.declared.expr.Expr.TheVariants as e
use Rattle.np_words.specs.declared.expr.Expr.TheViews.{roll-Expr, out-roll-Expr, roll-out-Expr}
use Rattle.np_words.specs.ExprForm.{minus_of}
use Rattle.np_words.specs.ExprText.{IsPlain, IsExprOf}
use Rattle.np_words.specs.Written.{IsName, IsIdent, IsDecimal}
use Rattle.np_words.proofs.ExprTexts.{IsBracketed}

-- ---- how values are made

abbrev pub call_of : Word × List Ident → Expr
call_of x = e.Call x.0 x.1

abbrev pub minus_made : Expr × Option Expr → Expr
minus_made x = minus_of x.0 x.1

abbrev pub div_made : Expr × Expr → Expr
div_made x = e.Div x.0 x.1

abbrev pub add_made : List Expr → Expr
add_made parts = e.Add parts

abbrev pub mul_made : List Expr → Expr
mul_made parts = e.Mul parts

abbrev pub cons_made : Expr × List Expr → List Expr
cons_made x = x.0 ∷ x.1

abbrev pub number_made : Decimal → Unit {0} → Expr
number_made d u = e.Number d

abbrev pub bare_made : Word → Expr
bare_made w = e.Bare w

abbrev pub IsUnit : Unit {0} → Type 0
IsUnit u = u ≡ tt

abbrev level : (P : Expr-F Expr → Type 0) (v : Expr) (x : Expr-F Expr) → roll-Expr x ≡ v → P x → P (out-Expr v)
level P v x is h = subst (λ (w : Expr). P (out-Expr w)) is (subst P (sym (out-roll-Expr x)) h)

-- ---- without brackets

abbrev pub PlainExpr : Expr → Type 0
PlainExpr v = MadeOf number_made IsDecimal IsUnit v ⊎ Made bare_made IsName v

pub plain_is : (v : Expr) → PlainExpr v → IsPlain (out-Expr v)
plain_is v (inl h) = level IsPlain v (Expr-F.Number h.0) (e.rolls-Number h.0 ∙ h.2) h.3
plain_is v (inr h) = level IsPlain v (Expr-F.Bare h.0) (e.rolls-Bare h.0 ∙ h.1) h.2

is_plain_by : (x : Expr-F Expr) (v : Expr) → roll-Expr x ≡ v → IsPlain x → PlainExpr v
is_plain_by (Expr-F.Number d) v is h = inl (d, tt, sym (e.rolls-Number d) ∙ is, h, refl)
is_plain_by (Expr-F.Bare w) v is h = inr (w, sym (e.rolls-Bare w) ∙ is, h)
is_plain_by (Expr-F.Call w idents) v is h = absurd h
is_plain_by (Expr-F.Minus a) v is h = absurd h
is_plain_by (Expr-F.Sub a b) v is h = absurd h
is_plain_by (Expr-F.Div a b) v is h = absurd h
is_plain_by (Expr-F.Add parts) v is h = absurd h
is_plain_by (Expr-F.Mul parts) v is h = absurd h

pub is_plain : (v : Expr) → IsPlain (out-Expr v) → PlainExpr v
is_plain v h = is_plain_by (out-Expr v) v (roll-out-Expr v) h

-- ---- in brackets

abbrev pub IsCalled : Expr → Type 0
IsCalled = Made call_of (GoodPair IsName (All IsIdent))

module _ (P : Expr → Type 0) where
  abbrev pub IsEnd : Option Expr → Type 0
  IsEnd None = Unit {0}
  IsEnd (Some b) = P b

  abbrev pub IsTwo : List Expr → Type 0
  IsTwo parts = (2 ≤ length parts) × All P parts

  abbrev pub ConsTwo : List Expr → Type 0
  ConsTwo = Made cons_made (GoodPair P (λ (ys : List Expr). HasOne ys × All P ys))

  pub two_made : (xs : List Expr) → ConsTwo xs → IsTwo xs
  two_made xs h = subst IsTwo h.1 (two h.0.0 h.0.1 h.2.0 h.2.1)
    where
      two : (a : Expr) (ys : List Expr) → P a → HasOne ys × All P ys → IsTwo (a ∷ ys)
      two a [] good more = absurd more.0
      two a (b ∷ ys) good more = (omega arith, All-cons P a (b ∷ ys) good more.1)

  pub made_two : (xs : List Expr) → IsTwo xs → ConsTwo xs
  made_two [] h = absurd (omega (arith, h.0))
  made_two (a ∷ []) h = absurd (omega (arith, h.0))
  made_two (a ∷ b ∷ ys) h = ((a, b ∷ ys), refl, (All-head P a (b ∷ ys) h.1, (tt, All-tail P a (b ∷ ys) h.1)))

  -- the kinds of expressions in brackets, each with those that are tried after it
  abbrev pub FromSlash : Expr → Type 0
  FromSlash = MadeOr div_made (GoodPair P P) IsCalled

  abbrev pub FromStar : Expr → Type 0
  FromStar = MadeOr mul_made IsTwo FromSlash

  abbrev pub FromPlus : Expr → Type 0
  FromPlus = MadeOr add_made IsTwo FromStar

  abbrev pub InBracket : Expr → Type 0
  InBracket = MadeOr minus_made (GoodPair P IsEnd) FromPlus

  minus_is : (a : Expr) (o : Option Expr) (v : Expr) → minus_of a o ≡ v → P a → IsEnd o → IsBracketed P (out-Expr v)
  minus_is a None v is h k = level (IsBracketed P) v (Expr-F.Minus a) (e.rolls-Minus a ∙ is) h
  minus_is a (Some b) v is h k = level (IsBracketed P) v (Expr-F.Sub a b) (e.rolls-Sub a b ∙ is) (h, k)

  pub bracket_is : (v : Expr) → InBracket v → IsBracketed P (out-Expr v)
  bracket_is v (inl h) = minus_is h.1.0 h.1.1 v h.2 h.4.0 h.4.1
  bracket_is v (inr (inl h)) = level (IsBracketed P) v (Expr-F.Add h.1) (e.rolls-Add h.1 ∙ h.2) h.4
  bracket_is v (inr (inr (inl h))) = level (IsBracketed P) v (Expr-F.Mul h.1) (e.rolls-Mul h.1 ∙ h.2) h.4
  bracket_is v (inr (inr (inr (inl h)))) = level (IsBracketed P) v (Expr-F.Div h.1.0 h.1.1) (e.rolls-Div h.1.0 h.1.1 ∙ h.2) h.4
  bracket_is v (inr (inr (inr (inr h)))) = level (IsBracketed P) v (Expr-F.Call h.0.0 h.0.1) (e.rolls-Call h.0.0 h.0.1 ∙ h.1) h.2

  is_bracket_by : (x : Expr-F Expr) (v : Expr) → roll-Expr x ≡ v → IsBracketed P x → InBracket v
  is_bracket_by (Expr-F.Number d) v is h = absurd h
  is_bracket_by (Expr-F.Bare w) v is h = absurd h
  is_bracket_by (Expr-F.Call w idents) v is h = inr (inr (inr (inr ((w, idents), sym (e.rolls-Call w idents) ∙ is, h))))
  is_bracket_by (Expr-F.Minus a) v is h = inl (tt, (a, None), sym (e.rolls-Minus a) ∙ is, tt, (h, tt))
  is_bracket_by (Expr-F.Sub a b) v is h = inl (tt, (a, Some b), sym (e.rolls-Sub a b) ∙ is, tt, h)
  is_bracket_by (Expr-F.Div a b) v is h = inr (inr (inr (inl (tt, (a, b), sym (e.rolls-Div a b) ∙ is, tt, h))))
  is_bracket_by (Expr-F.Add parts) v is h = inr (inl (tt, parts, sym (e.rolls-Add parts) ∙ is, tt, h))
  is_bracket_by (Expr-F.Mul parts) v is h = inr (inr (inl (tt, parts, sym (e.rolls-Mul parts) ∙ is, tt, h)))

  pub is_bracket : (v : Expr) → IsBracketed P (out-Expr v) → InBracket v
  is_bracket v h = is_bracket_by (out-Expr v) v (roll-out-Expr v) h

  -- ---- either way

  pub either_expr : (x : Expr-F Expr) → IsBracketed P x ⊎ IsPlain x → IsExprOf P x
  either_expr (Expr-F.Number d) (inl h) = absurd h
  either_expr (Expr-F.Bare w) (inl h) = absurd h
  either_expr (Expr-F.Call w idents) (inl h) = h
  either_expr (Expr-F.Minus a) (inl h) = h
  either_expr (Expr-F.Sub a b) (inl h) = h
  either_expr (Expr-F.Div a b) (inl h) = h
  either_expr (Expr-F.Add parts) (inl h) = h
  either_expr (Expr-F.Mul parts) (inl h) = h
  either_expr (Expr-F.Number d) (inr h) = h
  either_expr (Expr-F.Bare w) (inr h) = h
  either_expr (Expr-F.Call w idents) (inr h) = absurd h
  either_expr (Expr-F.Minus a) (inr h) = absurd h
  either_expr (Expr-F.Sub a b) (inr h) = absurd h
  either_expr (Expr-F.Div a b) (inr h) = absurd h
  either_expr (Expr-F.Add parts) (inr h) = absurd h
  either_expr (Expr-F.Mul parts) (inr h) = absurd h

  pub expr_either : (x : Expr-F Expr) → IsExprOf P x → IsBracketed P x ⊎ IsPlain x
  expr_either (Expr-F.Number d) h = inr h
  expr_either (Expr-F.Bare w) h = inr h
  expr_either (Expr-F.Call w idents) h = inl h
  expr_either (Expr-F.Minus a) h = inl h
  expr_either (Expr-F.Sub a b) h = inl h
  expr_either (Expr-F.Div a b) h = inl h
  expr_either (Expr-F.Add parts) h = inl h
  expr_either (Expr-F.Mul parts) h = inl h
