-- The text of each expression, by its parts, and the same without places.
use Rattle.std.proofs.Common.{◌≡◌, List, [], ◌∷◌, map, refl, sym, ap, subst, ◌∙◌, codes}
use Rattle.np_lex.specs.declared.token.Place.{Place}
use Rattle.np_lex.specs.Tokens.{Lexeme, named, numeral}
use Rattle.np_read.specs.Marks.{each}
use Rattle.np_words.specs.declared.word.Word.{Word}
use Rattle.np_words.specs.declared.word.Ident.{Ident}
use Rattle.np_words.specs.declared.word.Decimal.{Decimal}
use Rattle.np_words.specs.declared.expr.Expr.{Expr}
use Rattle.np_words.specs.declared.expr.Expr.TheFolds.{fold-Expr, fold-roll-Expr}
use Rattle.np_words.specs.declared.expr.Expr.TheOpen.{Expr-F}
use Rattle.np_words.specs.declared.expr.Expr.TheVariants as e
use Rattle.np_words.specs.declared.expr.Expr.TheViews.{roll-Expr}
use Rattle.np_words.specs.Bare.{bare_word, bare_ident, bare_decimal}
use Rattle.np_words.specs.ExprText.{left_at, expr_step, expr_at, expr, IsExprOf, bare_step, bare_expr}
use Rattle.np_words.specs.Text.{Printer, decimal_text, right, operator, name, identifier}

-- one after the other, each made first
pub each_map : {T A B : Type 0} (f : A → B) (print : B → List T → List T) (xs : List A) (ts : List T) → each print (map f xs) ts ≡ each (λ x. print (f x)) xs ts
each_map f print [] ts = refl
each_map f print (x ∷ xs) ts = ap (print (f x)) (each_map f print xs ts)

-- without the first
abbrev pub tail_of : {T : Type 0} → List T → List T
tail_of [] = []
tail_of (t ∷ ts) = ts

-- an expression in brackets, by its parts
abbrev pub IsBracketed : (Expr → Type 0) → Expr-F Expr → Type 0
IsBracketed P (Expr-F.Number d) = ⊥
IsBracketed P (Expr-F.Bare w) = ⊥
IsBracketed P x = IsExprOf P x

module _ {T : Type 0} (token : List Place → Lexeme → T) where
  abbrev Shown : Type 0
  Shown = List Place → Printer T

  -- by its level
  level : (v : Expr) (x : Expr-F Expr) → roll-Expr x ≡ v → (shown : Shown) → fold-Expr Shown (expr_step token) (roll-Expr x) ≡ shown → (places : List Place) (ts : List T) → expr_at token v places ts ≡ shown places ts
  level v x is shown folds places ts = ap (λ (w : Expr). expr_at token w places ts) (sym is) ∙ ap (λ (f : Shown). f places ts) folds

  pub text_number : (d : Decimal) (places : List Place) (ts : List T) → expr_at token (e.Number d) places ts ≡ token (d.place ∷ places) (numeral (decimal_text d)) ∷ ts
  text_number d = level (e.Number d) (Expr-F.Number d) (e.rolls-Number d) _ (fold-roll-Expr Shown (expr_step token) (Expr-F.Number d))

  pub text_bare : (w : Word) (places : List Place) (ts : List T) → expr_at token (e.Bare w) places ts ≡ token (w.place ∷ places) (named w.text) ∷ ts
  text_bare w = level (e.Bare w) (Expr-F.Bare w) (e.rolls-Bare w) _ (fold-roll-Expr Shown (expr_step token) (Expr-F.Bare w))

  pub text_call : (w : Word) (idents : List Ident) (places : List Place) (ts : List T) → expr_at token (e.Call w idents) places ts ≡ left_at token places (name token w (each (identifier token) idents (right token ts)))
  text_call w idents = level (e.Call w idents) (Expr-F.Call w idents) (e.rolls-Call w idents) _ (fold-roll-Expr Shown (expr_step token) (Expr-F.Call w idents))

  pub text_minus : (a : Expr) (places : List Place) (ts : List T) → expr_at token (e.Minus a) places ts ≡ left_at token places (operator token (codes "-") (expr token a (right token ts)))
  text_minus a = level (e.Minus a) (Expr-F.Minus a) (e.rolls-Minus a) _ (fold-roll-Expr Shown (expr_step token) (Expr-F.Minus a))

  pub text_sub : (a b : Expr) (places : List Place) (ts : List T) → expr_at token (e.Sub a b) places ts ≡ left_at token places (operator token (codes "-") (expr token a (expr token b (right token ts))))
  text_sub a b = level (e.Sub a b) (Expr-F.Sub a b) (e.rolls-Sub a b) _ (fold-roll-Expr Shown (expr_step token) (Expr-F.Sub a b))

  pub text_div : (a b : Expr) (places : List Place) (ts : List T) → expr_at token (e.Div a b) places ts ≡ left_at token places (operator token (codes "/") (expr token a (expr token b (right token ts))))
  text_div a b = level (e.Div a b) (Expr-F.Div a b) (e.rolls-Div a b) _ (fold-roll-Expr Shown (expr_step token) (Expr-F.Div a b))

  abbrev first_none : Shown → Printer T
  first_none shown = shown []

  pub text_add : (parts : List Expr) (places : List Place) (ts : List T) → expr_at token (e.Add parts) places ts ≡ left_at token places (operator token (codes "+") (each (expr token) parts (right token ts)))
  text_add parts places ts =
      level (e.Add parts) (Expr-F.Add parts) (e.rolls-Add parts) _ (fold-roll-Expr Shown (expr_step token) (Expr-F.Add parts)) places ts
      ∙ ap (λ (rest : List T). left_at token places (operator token (codes "+") rest)) (each_map (expr_at token) first_none parts (right token ts))

  pub text_mul : (parts : List Expr) (places : List Place) (ts : List T) → expr_at token (e.Mul parts) places ts ≡ left_at token places (operator token (codes "*") (each (expr token) parts (right token ts)))
  text_mul parts places ts =
      level (e.Mul parts) (Expr-F.Mul parts) (e.rolls-Mul parts) _ (fold-roll-Expr Shown (expr_step token) (Expr-F.Mul parts)) places ts
      ∙ ap (λ (rest : List T). left_at token places (operator token (codes "*") rest)) (each_map (expr_at token) first_none parts (right token ts))

  -- what is in brackets begins with one
  abbrev Opens : List Place → List T → Expr → Type 0
  Opens places ts v = expr_at token v places ts ≡ left_at token places (tail_of (expr token v ts))

  opened : (v w : Expr) → w ≡ v → (places : List Place) (ts rest : List T) → ((kept : List Place) → expr_at token w kept ts ≡ left_at token kept rest) → Opens places ts v
  opened v w is places ts rest so = subst (Opens places ts) is (so places ∙ sym (ap (λ (all_of : List T). left_at token places (tail_of all_of)) (so [])))

  pub opens : (P : Expr → Type 0) (x : Expr-F Expr) (v : Expr) → roll-Expr x ≡ v → IsBracketed P x → (places : List Place) (ts : List T) → expr_at token v places ts ≡ left_at token places (tail_of (expr token v ts))
  opens P (Expr-F.Number d) v is h places ts = absurd h
  opens P (Expr-F.Bare w) v is h places ts = absurd h
  opens P (Expr-F.Call w idents) v is h places ts = opened v (e.Call w idents) (sym (e.rolls-Call w idents) ∙ is) places ts _ (λ kept. text_call w idents kept ts)
  opens P (Expr-F.Minus a) v is h places ts = opened v (e.Minus a) (sym (e.rolls-Minus a) ∙ is) places ts _ (λ kept. text_minus a kept ts)
  opens P (Expr-F.Sub a b) v is h places ts = opened v (e.Sub a b) (sym (e.rolls-Sub a b) ∙ is) places ts _ (λ kept. text_sub a b kept ts)
  opens P (Expr-F.Div a b) v is h places ts = opened v (e.Div a b) (sym (e.rolls-Div a b) ∙ is) places ts _ (λ kept. text_div a b kept ts)
  opens P (Expr-F.Add parts) v is h places ts = opened v (e.Add parts) (sym (e.rolls-Add parts) ∙ is) places ts _ (λ kept. text_add parts kept ts)
  opens P (Expr-F.Mul parts) v is h places ts = opened v (e.Mul parts) (sym (e.rolls-Mul parts) ∙ is) places ts _ (λ kept. text_mul parts kept ts)

-- ---- the same without places

pub bare_number : (d : Decimal) → bare_expr (e.Number d) ≡ e.Number (bare_decimal d)
bare_number d = ap bare_expr (sym (e.rolls-Number d)) ∙ fold-roll-Expr Expr bare_step (Expr-F.Number d)

pub bare_bare : (w : Word) → bare_expr (e.Bare w) ≡ e.Bare (bare_word w)
bare_bare w = ap bare_expr (sym (e.rolls-Bare w)) ∙ fold-roll-Expr Expr bare_step (Expr-F.Bare w)

pub bare_call : (w : Word) (idents : List Ident) → bare_expr (e.Call w idents) ≡ e.Call (bare_word w) (map bare_ident idents)
bare_call w idents = ap bare_expr (sym (e.rolls-Call w idents)) ∙ fold-roll-Expr Expr bare_step (Expr-F.Call w idents)

pub bare_minus : (a : Expr) → bare_expr (e.Minus a) ≡ e.Minus (bare_expr a)
bare_minus a = ap bare_expr (sym (e.rolls-Minus a)) ∙ fold-roll-Expr Expr bare_step (Expr-F.Minus a)

pub bare_sub : (a b : Expr) → bare_expr (e.Sub a b) ≡ e.Sub (bare_expr a) (bare_expr b)
bare_sub a b = ap bare_expr (sym (e.rolls-Sub a b)) ∙ fold-roll-Expr Expr bare_step (Expr-F.Sub a b)

pub bare_div : (a b : Expr) → bare_expr (e.Div a b) ≡ e.Div (bare_expr a) (bare_expr b)
bare_div a b = ap bare_expr (sym (e.rolls-Div a b)) ∙ fold-roll-Expr Expr bare_step (Expr-F.Div a b)

pub bare_add : (parts : List Expr) → bare_expr (e.Add parts) ≡ e.Add (map bare_expr parts)
bare_add parts = ap bare_expr (sym (e.rolls-Add parts)) ∙ fold-roll-Expr Expr bare_step (Expr-F.Add parts)

pub bare_mul : (parts : List Expr) → bare_expr (e.Mul parts) ≡ e.Mul (map bare_expr parts)
bare_mul parts = ap bare_expr (sym (e.rolls-Mul parts)) ∙ fold-roll-Expr Expr bare_step (Expr-F.Mul parts)
