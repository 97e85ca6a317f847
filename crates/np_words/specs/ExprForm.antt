-- How expressions are read.
use Rattle.std.specs.Prelude.{ℕ, zero, suc, List, ◌∷◌, Option, None, Some, codes}
use Rattle.np_lex.specs.Tokens.{left, right}
use Rattle.np_read.specs.ItemReaders.{Reader, pure, expect, either, before, both, made, further, row}
use Rattle.np_read.specs.PlacedReaders.{either_by}
use Rattle.np_words.specs.declared.expr.Expr.{Expr}
use Rattle.np_words.specs.declared.expr.Expr.TheVariants as e
use Rattle.np_words.specs.ReadingForm.{name, identifier, number_of}
use Rattle.np_words.specs.Text.{operator_lexeme}

-- one operand negated, or two subtracted
abbrev pub minus_of : Expr → Option Expr → Expr
minus_of a None = e.Minus a
minus_of a (Some b) = e.Sub a b

-- a function with its arguments, after the bracket
unfoldable pub call : Reader Expr
call = made (λ x. e.Call x.0 x.1) (both name (row identifier))

-- a number or a name
unfoldable pub plain : Reader Expr
plain = either_by number_of (λ d. made (λ (u : Unit {0}). e.Number d) (pure {A = Unit {0}} tt)) (made (λ w. e.Bare w) name)

-- by how parts are read
module _ (part : Reader Expr) where
  -- the last part, and the bracket
  unfoldable pub last : Reader Expr
  last = before part (expect right)

  -- the second operand of `-`, or none, and the bracket
  unfoldable pub maybe_last : Reader (Option Expr)
  maybe_last = either right (pure None) (made (λ b. Some b) last)

  -- what follows each operator
  unfoldable pub difference : Reader Expr
  difference = made (λ x. minus_of x.0 x.1) (both part maybe_last)

  unfoldable pub quotient : Reader Expr
  quotient = made (λ x. e.Div x.0 x.1) (both part last)

  unfoldable pub two_parts : Reader (List Expr)
  two_parts = made (λ x. x.0 ∷ x.1) (both part (further part (row part)))

  unfoldable pub sum : Reader Expr
  sum = made (λ parts. e.Add parts) two_parts

  unfoldable pub product : Reader Expr
  product = made (λ parts. e.Mul parts) two_parts

  -- the operators, each with those that are tried after it
  unfoldable pub from_slash : Reader Expr
  from_slash = either (operator_lexeme (codes "/")) quotient call

  unfoldable pub from_star : Reader Expr
  from_star = either (operator_lexeme (codes "*")) product from_slash

  unfoldable pub from_plus : Reader Expr
  from_plus = either (operator_lexeme (codes "+")) sum from_star

  -- what follows an opening bracket
  unfoldable pub in_bracket : Reader Expr
  in_bracket = either (operator_lexeme (codes "-")) difference from_plus

-- an expression, where so many brackets may be opened
unfoldable pub expr : ℕ → Reader Expr
expr zero = plain
expr (suc depth) = either left (in_bracket (expr depth)) plain
