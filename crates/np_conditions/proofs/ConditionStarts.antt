-- The readers of conditions go by the next item, and are good.
use Rattle.std.proofs.Common.{◌≡◌, ℕ, zero, suc, List, [], Some, refl, codes}
use Rattle.np_lex.specs.Tokens.{left, right, named}
use Rattle.np_read.specs.ItemReaders.{Reader, pure, expect, after, before, made, row}
use Rattle.np_read.proofs.Good.{Good, Starts, Starting, good_pure, good_of}
use Rattle.np_read.proofs.GoodParts.{starts_expect, starts_either, starts_after, starts_before, starts_both, starts_made, good_before, good_both, good_made, good_row}
use Rattle.np_read.proofs.PlacedParts.{starts_either_by}
use Rattle.np_conditions.specs.declared.condition.Condition.{Condition}
use Rattle.np_conditions.specs.declared.condition.Op.TheVariants.{Less}
use Rattle.np_conditions.specs.declared.condition.Side.TheVariants as side
use Rattle.np_words.specs.Bare.{nowhere}
use Rattle.np_conditions.specs.ConditionForm.{op_of, operands, atom, expr_side, one_side, last_side, not_same, not_compared, not_atom, not_from_compare, in_not, negated, compared, some_atom, from_compare, equal, from_equal, from_not, all_of, from_and, in_bracket, no_parts, condition, parts}
use Rattle.np_words.specs.ExprForm.{expr, last}
use Rattle.np_words.specs.ReadingForm.{name, identifier, variable_of}
use Rattle.np_words.specs.Text.{operator_lexeme, variable_lexeme}
use Rattle.np_words.specs.Written.{is_small_name}
use Rattle.np_conditions.proofs.ConditionKinds.{nothing_made, and_made, atom_made, not_atom_made, compare_made, not_compare_made, equal_made, not_same_made}
use Rattle.np_words.proofs.ExprStarts.{closes, starting_expr, starting_last}
use Rattle.np_words.proofs.ReadingWords.{starting_name, starting_identifier}
use Rattle.np_conditions.proofs.Sides.{starts_kept}

less_says : op_of nowhere (operator_lexeme (codes "<")) ≡ Some Less
less_says = refl

pub starting_atom : Starting atom
unfolding atom
starting_atom k = starts_both k name (row identifier) (starting_name k) (good_row identifier starting_identifier k)

pub starting_operands : (depth : ℕ) → Starting (operands depth)
unfolding operands
starting_operands depth k =
    starts_both k (expr depth) (last (expr depth)) (starting_expr depth k) (good_of k (last (expr depth)) (starting_last (expr depth) (starting_expr depth) k))

-- ---- sides

a_variable : variable_of nowhere (variable_lexeme (codes "a")) ≡ Some (record { text = codes "a"; place = nowhere })
unfolding is_small_name
a_variable = refl

pub starting_expr_side : (depth : ℕ) → Starting (expr_side depth)
unfolding expr_side
starting_expr_side depth k = starts_kept (λ v place. side.Expr v place) (expr depth) k (starting_expr depth k)

pub starting_side : (depth : ℕ) → Starting (one_side depth)
unfolding one_side
starting_side depth k =
    starts_either_by k variable_of _ (expr_side depth) (λ w. good_made k (λ (u : Unit {0}). side.Variable w) (pure tt) (good_pure k tt)) (starting_expr_side depth k).tries nowhere (variable_lexeme (codes "a")) _ a_variable

pub starting_last_side : (depth : ℕ) → Starting (last_side depth)
unfolding last_side
starting_last_side depth k = starts_before k (one_side depth) (expect right) (starting_side depth k) (closes k)

-- ---- what `not` encloses

good_closed : {A : Type 0} (k : ℕ) (p : Reader A) → Good k p → Good k (before p (expect right))
good_closed k p good = good_before k p (expect right) good (closes k)

good_not_same : (k : ℕ) → Good k not_same
unfolding not_same
good_not_same k =
    good_made k not_same_made _ (good_closed k _ (good_both k identifier _ (good_of k identifier (starting_identifier k)) (good_closed k identifier (good_of k identifier (starting_identifier k)))))

good_not_compared : (depth k : ℕ) → (op : _) → Good k (not_compared depth op)
unfolding not_compared
good_not_compared depth k op = good_made k (not_compare_made op) _ (good_closed k (operands depth) (good_of k (operands depth) (starting_operands depth k)))

pub starting_not_atom : Starting not_atom
unfolding not_atom
starting_not_atom k = starts_made k not_atom_made _ (starts_before k atom (expect right) (starting_atom k) (closes k))

pub starting_not_from_compare : (depth : ℕ) → Starting (not_from_compare depth)
unfolding not_from_compare
starting_not_from_compare depth k =
    starts_either_by k op_of (not_compared depth) not_atom (good_not_compared depth k) (starting_not_atom k).tries nowhere (operator_lexeme (codes "<")) Less less_says

pub starting_in_not : (depth : ℕ) → Starting (in_not depth)
unfolding in_not
starting_in_not depth k = starts_either k (operator_lexeme (codes "=")) not_same (not_from_compare depth) (good_not_same k) (starting_not_from_compare depth k).tries

good_negated : (depth k : ℕ) → Good k (negated depth)
unfolding negated
good_negated depth k = good_of k _ (starts_after k (expect left) (in_not depth) (starts_expect k left) (good_of k (in_not depth) (starting_in_not depth k)))

-- ---- what a condition's bracket encloses

good_compared : (depth k : ℕ) → (op : _) → Good k (compared depth op)
unfolding compared
good_compared depth k op = good_made k (compare_made op) (operands depth) (good_of k (operands depth) (starting_operands depth k))

pub starting_some_atom : Starting some_atom
unfolding some_atom
starting_some_atom k = starts_made k atom_made atom (starting_atom k)

pub starting_from_compare : (depth : ℕ) → Starting (from_compare depth)
unfolding from_compare
starting_from_compare depth k =
    starts_either_by k op_of (compared depth) some_atom (good_compared depth k) (starting_some_atom k).tries nowhere (operator_lexeme (codes "<")) Less less_says

good_equal : (depth k : ℕ) → Good k (equal depth)
unfolding equal
good_equal depth k =
    good_made k equal_made _ (good_both k (one_side depth) (last_side depth) (good_of k (one_side depth) (starting_side depth k)) (good_of k (last_side depth) (starting_last_side depth k)))

pub starting_from_equal : (depth : ℕ) → Starting (from_equal depth)
unfolding from_equal
starting_from_equal depth k = starts_either k (operator_lexeme (codes "=")) (equal depth) (from_compare depth) (good_equal depth k) (starting_from_compare depth k).tries

pub starting_from_not : (depth : ℕ) → Starting (from_not depth)
unfolding from_not
starting_from_not zero k = starting_from_equal zero k
starting_from_not (suc depth) k = starts_either k (named (codes "not")) (negated depth) (from_equal (suc depth)) (good_negated depth k) (starting_from_equal (suc depth) k).tries

module _ (depth : ℕ) (some : Reader (List Condition)) (good : (k : ℕ) → Good k some) where
  good_all_of : (k : ℕ) → Good k (all_of depth some)
  unfolding all_of
  good_all_of k = good_made k and_made some (good k)

  pub starting_from_and : Starting (from_and depth some)
  unfolding from_and
  starting_from_and k = starts_either k (named (codes "and")) (all_of depth some) (from_not depth) (good_all_of k) (starting_from_not depth k).tries

  pub starting_in_bracket : Starting (in_bracket depth some)
  unfolding in_bracket
  starting_in_bracket k =
      starts_either k right (made nothing_made (pure tt)) (from_and depth some) (good_made k nothing_made (pure tt) (good_pure k tt)) (starting_from_and k).tries

pub good_no_parts : (k : ℕ) → Good k no_parts
unfolding no_parts
good_no_parts k = good_made k (λ (u : Unit {0}). []) (expect right) (closes k)

opened : (k : ℕ) (p : Reader Condition) → Starting p → Starts k (after (expect left) p)
opened k p starting = starts_after k (expect left) p (starts_expect k left) (good_of k p (starting k))

pub starting_condition : (depth : ℕ) → Starting (condition depth)
unfolding condition
starting_condition zero k = opened k (in_bracket zero no_parts) (starting_in_bracket zero no_parts good_no_parts)
starting_condition (suc depth) k =
    opened k (in_bracket (suc depth) (row (condition depth))) (starting_in_bracket (suc depth) (row (condition depth)) (good_row (condition depth) (starting_condition depth)))

pub good_parts : (depth k : ℕ) → Good k (parts depth)
unfolding parts
good_parts zero k = good_no_parts k
good_parts (suc depth) k = good_row (condition depth) (starting_condition depth) k
