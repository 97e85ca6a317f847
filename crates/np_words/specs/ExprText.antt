-- Expressions: their text, and which of them have one.
use Rattle.std.specs.Prelude.{ℕ, zero, suc, ◌≤◌, List, [], ◌∷◌, length, map, All, codes}
use Rattle.np_lex.specs.declared.token.Place.{Place}
use Rattle.np_lex.specs.Tokens.{Lexeme, named, numeral}
use Rattle.np_lex.specs.Tokens as tokens
use Rattle.np_read.specs.Marks.{each}
use Rattle.np_words.specs.declared.expr.Expr.{Expr, out-Expr}
use Rattle.np_words.specs.declared.expr.Expr.TheFolds.{fold-Expr}
use Rattle.np_words.specs.declared.expr.Expr.TheOpen.{Expr-F}
use Rattle.np_words.specs.declared.expr.Expr.TheVariants as e
use Rattle.np_words.specs.Bare.{bare_word, bare_ident, bare_decimal}
use Rattle.np_words.specs.Text.{Printer, decimal_text, right, operator, name, identifier}
use Rattle.np_words.specs.Written.{IsName, IsCall, IsDecimal}

-- ---- the text

module _ {T : Type 0} (token : List Place → Lexeme → T) where
  -- an opening bracket that keeps these places
  abbrev pub left_at : List Place → Printer T
  left_at places rest = token places tokens.left ∷ rest

  -- the text of an expression whose first token keeps these places too, by the texts of its parts
  abbrev pub expr_step : Expr-F (List Place → Printer T) → List Place → Printer T
  expr_step (Expr-F.Number d) places rest = token (d.place ∷ places) (numeral (decimal_text d)) ∷ rest
  expr_step (Expr-F.Bare w) places rest = token (w.place ∷ places) (named w.text) ∷ rest
  expr_step (Expr-F.Call w idents) places rest = left_at places (name token w (each (identifier token) idents (right token rest)))
  expr_step (Expr-F.Minus a) places rest = left_at places (operator token (codes "-") (a [] (right token rest)))
  expr_step (Expr-F.Sub a b) places rest = left_at places (operator token (codes "-") (a [] (b [] (right token rest))))
  expr_step (Expr-F.Div a b) places rest = left_at places (operator token (codes "/") (a [] (b [] (right token rest))))
  expr_step (Expr-F.Add parts) places rest = left_at places (operator token (codes "+") (each (λ part. part []) parts (right token rest)))
  expr_step (Expr-F.Mul parts) places rest = left_at places (operator token (codes "*") (each (λ part. part []) parts (right token rest)))

  abbrev pub expr_at : Expr → List Place → Printer T
  expr_at = fold-Expr (List Place → Printer T) expr_step

  abbrev pub expr : Expr → Printer T
  expr v = expr_at v []

-- ---- which have a text

-- an expression without brackets
abbrev pub IsPlain : Expr-F Expr → Type 0
IsPlain (Expr-F.Number d) = IsDecimal d
IsPlain (Expr-F.Bare w) = IsName w
IsPlain _ = ⊥

-- an expression by its parts: sums and products have two at least
abbrev pub IsExprOf : (Expr → Type 0) → Expr-F Expr → Type 0
IsExprOf P (Expr-F.Number d) = IsDecimal d
IsExprOf P (Expr-F.Bare w) = IsName w
IsExprOf P (Expr-F.Call w idents) = IsCall w idents
IsExprOf P (Expr-F.Minus a) = P a
IsExprOf P (Expr-F.Sub a b) = P a × P b
IsExprOf P (Expr-F.Div a b) = P a × P b
IsExprOf P (Expr-F.Add parts) = (2 ≤ length parts) × All P parts
IsExprOf P (Expr-F.Mul parts) = (2 ≤ length parts) × All P parts

-- an expression in which brackets nest at most so deep
abbrev pub IsExpr : ℕ → Expr → Type 0
IsExpr zero v = IsPlain (out-Expr v)
IsExpr (suc depth) v = IsExprOf (IsExpr depth) (out-Expr v)

-- ---- the same without places

abbrev pub bare_step : Expr-F Expr → Expr
bare_step (Expr-F.Number d) = e.Number (bare_decimal d)
bare_step (Expr-F.Bare w) = e.Bare (bare_word w)
bare_step (Expr-F.Call w idents) = e.Call (bare_word w) (map bare_ident idents)
bare_step (Expr-F.Minus a) = e.Minus a
bare_step (Expr-F.Sub a b) = e.Sub a b
bare_step (Expr-F.Div a b) = e.Div a b
bare_step (Expr-F.Add parts) = e.Add parts
bare_step (Expr-F.Mul parts) = e.Mul parts

abbrev pub bare_expr : Expr → Expr
bare_expr = fold-Expr Expr bare_step
