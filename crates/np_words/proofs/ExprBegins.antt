-- The first token of an expression: it keeps the places that are given besides its own.
use Rattle.std.proofs.Common.{◌≡◌, List, [], ◌∷◌, ◌++◌, sym, subst, ◌∙◌}
use Rattle.np_lex.specs.declared.token.Place.{Place}
use Rattle.np_lex.specs.Tokens.{Lexeme, left, named, numeral}
use Rattle.np_words.specs.declared.expr.Expr.{Expr, out-Expr}
use Rattle.np_words.specs.declared.expr.Expr.TheOpen.{Expr-F}
use Rattle.np_words.specs.declared.expr.Expr.TheVariants as e
use Rattle.np_words.specs.declared.expr.Expr.TheViews.{roll-Expr, roll-out-Expr}
use Rattle.np_words.specs.ExprText.{expr_at}
use Rattle.np_words.specs.Text.{decimal_text}
use Rattle.np_words.proofs.ExprTexts.{text_number, text_bare, text_call, text_minus, text_sub, text_div, text_add, text_mul}

module _ {T : Type 0} (token : List Place → Lexeme → T) where
  -- what begins with this lexeme, at places of its own and those that are given
  pub record Begins (shown : List Place → List T) : Type 0 where
    pub lexeme : Lexeme
    pub own : List Place
    pub rest : List T
    pub is : (places : List Place) → shown places ≡ token (own ++ places) lexeme ∷ rest

  abbrev Shown : List T → Expr → List Place → List T
  Shown ts v places = expr_at token v places ts

  begins_by : (v w : Expr) → w ≡ v → (ts : List T) (lexeme : Lexeme) (own : List Place) (rest : List T) → ((places : List Place) → expr_at token w places ts ≡ token (own ++ places) lexeme ∷ rest) → Begins (Shown ts v)
  begins_by v w is ts lexeme own rest so = subst (λ (u : Expr). Begins (Shown ts u)) is (record { lexeme = lexeme; own = own; rest = rest; is = so })

  begins_level : (x : Expr-F Expr) (v : Expr) → roll-Expr x ≡ v → (ts : List T) → Begins (Shown ts v)
  begins_level (Expr-F.Number d) v is ts = begins_by v (e.Number d) (sym (e.rolls-Number d) ∙ is) ts (numeral (decimal_text d)) (d.place ∷ []) _ (λ places. text_number token d places ts)
  begins_level (Expr-F.Bare w) v is ts = begins_by v (e.Bare w) (sym (e.rolls-Bare w) ∙ is) ts (named w.text) (w.place ∷ []) _ (λ places. text_bare token w places ts)
  begins_level (Expr-F.Call w idents) v is ts = begins_by v (e.Call w idents) (sym (e.rolls-Call w idents) ∙ is) ts left [] _ (λ places. text_call token w idents places ts)
  begins_level (Expr-F.Minus a) v is ts = begins_by v (e.Minus a) (sym (e.rolls-Minus a) ∙ is) ts left [] _ (λ places. text_minus token a places ts)
  begins_level (Expr-F.Sub a b) v is ts = begins_by v (e.Sub a b) (sym (e.rolls-Sub a b) ∙ is) ts left [] _ (λ places. text_sub token a b places ts)
  begins_level (Expr-F.Div a b) v is ts = begins_by v (e.Div a b) (sym (e.rolls-Div a b) ∙ is) ts left [] _ (λ places. text_div token a b places ts)
  begins_level (Expr-F.Add parts) v is ts = begins_by v (e.Add parts) (sym (e.rolls-Add parts) ∙ is) ts left [] _ (λ places. text_add token parts places ts)
  begins_level (Expr-F.Mul parts) v is ts = begins_by v (e.Mul parts) (sym (e.rolls-Mul parts) ∙ is) ts left [] _ (λ places. text_mul token parts places ts)

  pub begins_expr : (v : Expr) (ts : List T) → Begins (λ (places : List Place). expr_at token v places ts)
  begins_expr v ts = begins_level (out-Expr v) v (roll-out-Expr v) ts
