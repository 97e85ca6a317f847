-- How conditions are read.
use Rattle.std.specs.Prelude.{ℕ, zero, suc, List, [], ◌∷◌, Option, None, Some, bytes_eq, codes, if◌then◌else◌}
use Rattle.np_lex.specs.declared.token.Kind.TheVariants as kind
use Rattle.np_lex.specs.declared.token.Place.{Place}
use Rattle.np_lex.specs.Tokens.{Lexeme, Item, left, right, named}
use Rattle.np_read.specs.ItemReaders.{Reader, pure, expect, either, after, before, both, made, row}
use Rattle.np_read.specs.PlacedReaders.{token_by, either_by}
use Rattle.np_read.specs.Same.{same_kind}
use Rattle.np_words.specs.declared.word.Word.{Word}
use Rattle.np_words.specs.declared.word.Ident.{Ident}
use Rattle.np_words.specs.declared.expr.Expr.{Expr}
use Rattle.np_conditions.specs.declared.condition.Op.{Op}
use Rattle.np_conditions.specs.declared.condition.Op.TheVariants.{Less, Greater, AtMost, AtLeast}
use Rattle.np_conditions.specs.declared.condition.Side.{Side}
use Rattle.np_conditions.specs.declared.condition.Side.TheVariants as side
use Rattle.np_conditions.specs.declared.condition.Condition.{Condition}
use Rattle.np_conditions.specs.declared.condition.Condition.TheVariants as c
use Rattle.np_words.specs.Bare.{nowhere}
use Rattle.np_words.specs.ExprForm.{expr, last}
use Rattle.np_words.specs.ReadingForm.{name, identifier, variable_of}
use Rattle.np_words.specs.Text.{operator_lexeme}

-- ---- comparisons

abbrev pub op_in : List ℕ → Option Op
op_in text =
    if bytes_eq text (codes "<") then Some Less
    else (if bytes_eq text (codes ">") then Some Greater
    else (if bytes_eq text (codes "<=") then Some AtMost
    else (if bytes_eq text (codes ">=") then Some AtLeast
    else None)))

-- the comparison that the lexeme is
abbrev pub op_of : Place → Lexeme → Option Op
op_of place lexeme = if same_kind lexeme.kind kind.Op then op_in lexeme.text else None

unfoldable pub comparison : Reader Op
comparison = token_by op_of

-- two expressions, and the bracket
unfoldable pub operands : ℕ → Reader (Expr × Expr)
operands depth = both (expr depth) (last (expr depth))

-- a name and arguments, and the bracket
unfoldable pub atom : Reader (Word × List Ident)
atom = both name (row identifier)

-- ---- sides of `=`

abbrev pub place_in : List Item → Place
place_in [] = nowhere
place_in (item ∷ items) = item.place

-- an expression, with the place of its first token
unfoldable pub expr_side : ℕ → Reader Side
expr_side depth items = made (λ v. side.Expr v (place_in items)) (expr depth) items

unfoldable pub one_side : ℕ → Reader Side
one_side depth = either_by variable_of (λ w. made (λ (u : Unit {0}). side.Variable w) (pure tt)) (expr_side depth)

unfoldable pub last_side : ℕ → Reader Side
last_side depth = before (one_side depth) (expect right)

-- ---- what `not` encloses, after its bracket, and both closing brackets

-- a closing bracket after something
abbrev pub closed : {A : Type 0} → Reader A → Reader A
closed reader = before reader (expect right)

unfoldable pub not_same : Reader Condition
not_same = made (λ x. c.NotSame x.0 x.1) (closed (both identifier (closed identifier)))

unfoldable pub not_compared : ℕ → Op → Reader Condition
not_compared depth op = made (λ x. c.NotCompare op x.0 x.1) (closed (operands depth))

unfoldable pub not_atom : Reader Condition
not_atom = made (λ x. c.NotAtom x.0 x.1) (closed atom)

unfoldable pub not_from_compare : ℕ → Reader Condition
not_from_compare depth = either_by op_of (not_compared depth) not_atom

unfoldable pub in_not : ℕ → Reader Condition
in_not depth = either (operator_lexeme (codes "=")) not_same (not_from_compare depth)

unfoldable pub negated : ℕ → Reader Condition
negated depth = after (expect left) (in_not depth)

-- ---- what a condition's bracket encloses, where so many more may be opened: the kinds, each with those that are tried after it

unfoldable pub compared : ℕ → Op → Reader Condition
compared depth op = made (λ x. c.Compare op x.0 x.1) (operands depth)

unfoldable pub some_atom : Reader Condition
some_atom = made (λ x. c.Atom x.0 x.1) atom

unfoldable pub from_compare : ℕ → Reader Condition
from_compare depth = either_by op_of (compared depth) some_atom

unfoldable pub equal : ℕ → Reader Condition
equal depth = made (λ x. c.Equal x.0 x.1) (both (one_side depth) (last_side depth))

unfoldable pub from_equal : ℕ → Reader Condition
from_equal depth = either (operator_lexeme (codes "=")) (equal depth) (from_compare depth)

-- where no bracket may be opened, `not` is no condition
unfoldable pub from_not : ℕ → Reader Condition
from_not zero = from_equal zero
from_not (suc depth) = either (named (codes "not")) (negated depth) (from_equal (suc depth))

module _ (depth : ℕ) (parts : Reader (List Condition)) where
  unfoldable pub all_of : Reader Condition
  all_of = made (λ cs. c.And cs) parts

  unfoldable pub from_and : Reader Condition
  from_and = either (named (codes "and")) all_of (from_not depth)

  unfoldable pub in_bracket : Reader Condition
  in_bracket = either right (made (λ (u : Unit {0}). c.Nothing) (pure tt)) from_and

-- no part
unfoldable pub no_parts : Reader (List Condition)
no_parts = made (λ (u : Unit {0}). []) (expect right)

-- a condition, in whose bracket so many more may be opened
unfoldable pub condition : ℕ → Reader Condition
condition zero = after (expect left) (in_bracket zero no_parts)
condition (suc depth) = after (expect left) (in_bracket (suc depth) (row (condition depth)))

-- the parts of a condition, where so many brackets may be opened
unfoldable pub parts : ℕ → Reader (List Condition)
parts zero = no_parts
parts (suc depth) = row (condition depth)
