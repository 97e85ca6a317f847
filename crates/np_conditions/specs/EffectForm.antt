-- How effects are read.
use Rattle.std.specs.Prelude.{ℕ, zero, suc, Bool, true, false, List, [], codes}
use Rattle.np_lex.specs.Tokens.{left, right, named}
use Rattle.np_read.specs.ItemReaders.{Reader, pure, expect, either, after, both, made, row}
use Rattle.np_words.specs.declared.word.Word.{Word}
use Rattle.np_words.specs.declared.word.Ident.{Ident}
use Rattle.np_words.specs.declared.expr.Expr.{Expr}
use Rattle.np_conditions.specs.declared.effect.Effect.{Effect}
use Rattle.np_conditions.specs.declared.effect.Effect.TheVariants as e
use Rattle.np_conditions.specs.ConditionForm.{atom, closed}
use Rattle.np_words.specs.ExprForm.{expr, last}
use Rattle.np_words.specs.ReadingForm.{name}

-- what an effect changes: a name, its arguments, and whether the name is alone
abbrev pub Target : Type 0
Target = Word × List Ident × Bool

unfoldable pub bare_target : Reader Target
bare_target = made (λ w. (w, [], true)) name

unfoldable pub called_target : Reader Target
called_target = made (λ x. (x.0, x.1, false)) atom

-- where so many brackets may be opened
unfoldable pub target : ℕ → Reader Target
target zero = bare_target
target (suc depth) = either left called_target bare_target

-- a target and an expression, and the bracket
unfoldable pub change : ℕ → Reader (Target × Expr)
change depth = both (target depth) (last (expr depth))

-- ---- what an effect's bracket encloses, where so many more may be opened: the kinds, each with those that are tried after it

unfoldable pub added : Reader Effect
added = made (λ x. e.Add x.0 x.1) atom

unfoldable pub decreased : ℕ → Reader Effect
decreased depth = made (λ x. e.Decrease x.0.0 x.0.1 x.0.2 x.1) (change depth)

unfoldable pub from_decrease : ℕ → Reader Effect
from_decrease depth = either (named (codes "decrease")) (decreased depth) added

unfoldable pub increased : ℕ → Reader Effect
increased depth = made (λ x. e.Increase x.0.0 x.0.1 x.0.2 x.1) (change depth)

unfoldable pub from_increase : ℕ → Reader Effect
from_increase depth = either (named (codes "increase")) (increased depth) (from_decrease depth)

-- an atom that `not` encloses, and both closing brackets
unfoldable pub deleted : Reader Effect
deleted = after (expect left) (made (λ x. e.Delete x.0 x.1) (closed atom))

-- where no bracket may be opened, `not` is no effect
unfoldable pub from_not : ℕ → Reader Effect
from_not zero = from_increase zero
from_not (suc depth) = either (named (codes "not")) deleted (from_increase (suc depth))

module _ (depth : ℕ) (parts : Reader (List Effect)) where
  unfoldable pub all_of : Reader Effect
  all_of = made (λ es. e.And es) parts

  unfoldable pub from_and : Reader Effect
  from_and = either (named (codes "and")) all_of (from_not depth)

  unfoldable pub in_bracket : Reader Effect
  in_bracket = either right (made (λ (u : Unit {0}). e.Nothing) (pure tt)) from_and

-- no part
unfoldable pub no_parts : Reader (List Effect)
no_parts = made (λ (u : Unit {0}). []) (expect right)

-- an effect, in whose bracket so many more may be opened
unfoldable pub effect : ℕ → Reader Effect
effect zero = after (expect left) (in_bracket zero no_parts)
effect (suc depth) = after (expect left) (in_bracket (suc depth) (row (effect depth)))

-- the parts of an effect, where so many brackets may be opened
unfoldable pub parts : ℕ → Reader (List Effect)
parts zero = no_parts
parts (suc depth) = row (effect depth)
