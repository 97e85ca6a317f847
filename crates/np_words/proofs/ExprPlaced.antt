-- Expressions keep the places of their words and numbers.
use Rattle.std.proofs.Common.{◌≡◌, ◌⊎◌, inl, inr, ℕ, zero, suc, List, [], ◌∷◌, Option, None, Some, refl, sym, ap, subst, codes}
use Rattle.std.specs.List.{All}
use Rattle.np_lex.specs.Tokens.{left, right, numeral}
use Rattle.np_read.specs.Marks.{Mark, Marking, each}
use Rattle.np_read.specs.ItemReaders.{Reader, row}
use Rattle.np_read.proofs.Marked.{Placed, plain, placed_pure, placed_expect, placed_either, placed_same, placed_both, placed_made, placed_before, placed_row, placed_some}
use Rattle.np_read.proofs.PlacedParts.{says_marked, placed_either_made, placed_either_by}
use Rattle.np_read.proofs.Spelled.{Made}
use Rattle.np_words.specs.declared.word.Ident.{Ident}
use Rattle.np_words.specs.declared.expr.Expr.{Expr, out-Expr}
use Rattle.np_words.specs.declared.expr.Expr.TheViews.{roll-out-Expr}
use Rattle.np_words.specs.ExprForm.{minus_of, call, last, maybe_last, difference, quotient, two_parts, sum, product, from_slash, from_star, from_plus, in_bracket, expr}
use Rattle.np_words.specs.ExprForm as form
use Rattle.np_words.specs.ExprText.{IsPlain, IsExpr}
use Rattle.np_words.specs.ExprText as printed
use Rattle.np_words.specs.ReadingForm.{number, identifier, number_of}
use Rattle.np_words.specs.Text.{marked, operator_lexeme, decimal_text}
use Rattle.np_words.specs.Text as text
use Rattle.np_words.specs.Written.{IsIdent, IsDecimal}
use Rattle.np_words.proofs.ExprKinds.{call_of, minus_made, div_made, add_made, mul_made, cons_made, number_made, bare_made, plain_is, IsEnd, IsTwo, two_made, IsCalled, FromSlash, FromStar, FromPlus, bracket_is, either_expr}
use Rattle.np_words.proofs.ExprTexts.{tail_of, IsBracketed, opens, text_number, text_bare, text_call, text_minus, text_sub, text_div, text_add, text_mul}
use Rattle.np_words.proofs.ReadingNumbers.{placed_decimal}
use Rattle.np_words.proofs.ReadingWords.{placed_name, placed_identifier}

abbrev pub marks : Expr → Marking
marks = printed.expr marked

-- what follows the first bracket
abbrev body : Expr → Marking
body v ms = tail_of (marks v ms)

abbrev mark_parts : List Expr → Marking
mark_parts parts ms = each marks parts (plain right ∷ ms)

-- ---- a function with its arguments

abbrev pub mark_idents : List Ident → Marking
mark_idents idents ms = each (text.identifier marked) idents (plain right ∷ ms)

pub placed_idents : Placed (All IsIdent) mark_idents (row identifier)
placed_idents = placed_row placed_identifier

placed_call : Placed IsCalled body call
unfolding call
placed_call = placed_made call_of body (λ x ms. ap tail_of (text_call marked x.0 x.1 [] ms)) (placed_both placed_name placed_idents)

-- ---- numbers and names

placed_plain : Placed (λ (v : Expr). IsPlain (out-Expr v)) marks form.plain
unfolding form.plain number
placed_plain =
    placed_same (λ v. IsPlain (out-Expr v)) plain_is
    (placed_either_by number_of IsDecimal number_made (λ d. marked (d.place ∷ []) (numeral (decimal_text d))) (says_marked number_of _ placed_decimal)
    (λ d u ms. text_number marked d [] ms) (placed_pure tt) (placed_made bare_made marks (λ w ms. text_bare marked w [] ms) placed_name))

-- ---- by the readers of parts

abbrev mark_end : Option Expr → Marking
mark_end None ms = plain right ∷ ms
mark_end (Some b) ms = marks b (plain right ∷ ms)

minus_marks : (a : Expr) (o : Option Expr) (ms : List Mark) → body (minus_of a o) ms ≡ plain (operator_lexeme (codes "-")) ∷ marks a (mark_end o ms)
minus_marks a None ms = ap tail_of (text_minus marked a [] ms)
minus_marks a (Some b) ms = ap tail_of (text_sub marked a b [] ms)

module _ (P : Expr → Type 0) (part : Reader Expr) (keeps : Placed P marks part) where
  pub placed_last : Placed P (λ (a : Expr) (ms : List Mark). marks a (plain right ∷ ms)) (last part)
  unfolding last
  placed_last = placed_before keeps (placed_expect right)

  end_is : (a : Option Expr) → (a ≡ None) ⊎ Made (λ b. Some b) P a → IsEnd P a
  end_is a (inl h) = subst (IsEnd P) (sym h) tt
  end_is a (inr h) = subst (IsEnd P) h.1 h.2

  placed_end : Placed (IsEnd P) mark_end (maybe_last part)
  unfolding maybe_last
  placed_end =
      placed_same (IsEnd P) end_is
      (placed_either right (placed_pure None) (placed_made (λ b. Some b) mark_end (λ b ms. refl) placed_last) (λ a ms h. ap (λ (o : Option Expr). mark_end o ms) h))

  placed_two : Placed (IsTwo P) mark_parts (two_parts part)
  unfolding two_parts
  placed_two = placed_same (IsTwo P) (two_made P) (placed_made cons_made mark_parts (λ x ms. refl) (placed_both keeps (placed_some keeps)))

  placed_from_slash : Placed (FromSlash P) body (from_slash part)
  unfolding from_slash quotient
  placed_from_slash =
      placed_either_made (operator_lexeme (codes "/")) div_made (λ x ms. ap tail_of (text_div marked x.0 x.1 [] ms)) (placed_both keeps placed_last) placed_call

  placed_from_star : Placed (FromStar P) body (from_star part)
  unfolding from_star product
  placed_from_star = placed_either_made (operator_lexeme (codes "*")) mul_made (λ parts ms. ap tail_of (text_mul marked parts [] ms)) placed_two placed_from_slash

  placed_from_plus : Placed (FromPlus P) body (from_plus part)
  unfolding from_plus sum
  placed_from_plus = placed_either_made (operator_lexeme (codes "+")) add_made (λ parts ms. ap tail_of (text_add marked parts [] ms)) placed_two placed_from_star

  placed_in_bracket : Placed (λ (v : Expr). IsBracketed P (out-Expr v)) body (in_bracket part)
  unfolding in_bracket difference
  placed_in_bracket =
      placed_same (λ v. IsBracketed P (out-Expr v)) (bracket_is P)
      (placed_either_made (operator_lexeme (codes "-")) minus_made (λ x ms. minus_marks x.0 x.1 ms) (placed_both keeps placed_end) placed_from_plus)

-- ---- expressions

pub placed_expr : (depth : ℕ) → Placed (IsExpr depth) marks (expr depth)
unfolding expr
placed_expr zero = placed_plain
placed_expr (suc depth) =
    placed_same (IsExpr (suc depth)) (λ v h. either_expr (IsExpr depth) (out-Expr v) h)
    (placed_either left (placed_in_bracket (IsExpr depth) (expr depth) (placed_expr depth)) placed_plain (λ v ms h. opens marked (IsExpr depth) (out-Expr v) v (roll-out-Expr v) h [] ms))
