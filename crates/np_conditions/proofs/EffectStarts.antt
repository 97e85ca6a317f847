-- The readers of effects go by the next item, and are good.
use Rattle.std.proofs.Common.{ℕ, zero, suc, List, [], codes}
use Rattle.np_lex.specs.Tokens.{left, right, named}
use Rattle.np_read.specs.ItemReaders.{Reader, pure, expect, after, before, made, row}
use Rattle.np_read.proofs.Good.{Good, Starts, Starting, good_pure, good_of}
use Rattle.np_read.proofs.GoodParts.{starts_expect, starts_either, starts_after, starts_both, starts_made, good_before, good_made, good_row}
use Rattle.np_conditions.specs.declared.effect.Effect.{Effect}
use Rattle.np_conditions.specs.ConditionForm.{atom}
use Rattle.np_conditions.specs.EffectForm.{bare_target, called_target, target, change, added, decreased, from_decrease, increased, from_increase, deleted, from_not, all_of, from_and, in_bracket, no_parts, effect, parts}
use Rattle.np_words.specs.ExprForm.{expr, last}
use Rattle.np_words.specs.ReadingForm.{name}
use Rattle.np_conditions.proofs.ConditionStarts.{starting_atom}
use Rattle.np_conditions.proofs.EffectKinds.{alone_made, called_made, nothing_made, and_made, add_made, delete_made, increase_made, decrease_made}
use Rattle.np_words.proofs.ExprStarts.{closes, starting_expr, starting_last}
use Rattle.np_words.proofs.ReadingWords.{starting_name}

pub starting_bare_target : Starting bare_target
unfolding bare_target
starting_bare_target k = starts_made k alone_made name (starting_name k)

good_called_target : (k : ℕ) → Good k called_target
unfolding called_target
good_called_target k = good_made k called_made atom (good_of k atom (starting_atom k))

pub starting_target : (depth : ℕ) → Starting (target depth)
unfolding target
starting_target zero k = starting_bare_target k
starting_target (suc depth) k = starts_either k left called_target bare_target (good_called_target k) (starting_bare_target k).tries

starting_change : (depth : ℕ) → Starting (change depth)
unfolding change
starting_change depth k = starts_both k (target depth) (last (expr depth)) (starting_target depth k) (good_of k (last (expr depth)) (starting_last (expr depth) (starting_expr depth) k))

pub starting_added : Starting added
unfolding added
starting_added k = starts_made k add_made atom (starting_atom k)

good_decreased : (depth k : ℕ) → Good k (decreased depth)
unfolding decreased
good_decreased depth k = good_made k decrease_made (change depth) (good_of k (change depth) (starting_change depth k))

pub starting_from_decrease : (depth : ℕ) → Starting (from_decrease depth)
unfolding from_decrease
starting_from_decrease depth k = starts_either k (named (codes "decrease")) (decreased depth) added (good_decreased depth k) (starting_added k).tries

good_increased : (depth k : ℕ) → Good k (increased depth)
unfolding increased
good_increased depth k = good_made k increase_made (change depth) (good_of k (change depth) (starting_change depth k))

pub starting_from_increase : (depth : ℕ) → Starting (from_increase depth)
unfolding from_increase
starting_from_increase depth k = starts_either k (named (codes "increase")) (increased depth) (from_decrease depth) (good_increased depth k) (starting_from_decrease depth k).tries

good_deleted : (k : ℕ) → Good k deleted
unfolding deleted
good_deleted k =
    good_of k _ (starts_after k (expect left) _ (starts_expect k left) (good_made k delete_made (before atom (expect right)) (good_before k atom (expect right) (good_of k atom (starting_atom k)) (closes k))))

pub starting_from_not : (depth : ℕ) → Starting (from_not depth)
unfolding from_not
starting_from_not zero k = starting_from_increase zero k
starting_from_not (suc depth) k = starts_either k (named (codes "not")) deleted (from_increase (suc depth)) (good_deleted k) (starting_from_increase (suc depth) k).tries

module _ (depth : ℕ) (some : Reader (List Effect)) (good : (k : ℕ) → Good k some) where
  good_all_of : (k : ℕ) → Good k (all_of depth some)
  unfolding all_of
  good_all_of k = good_made k and_made some (good k)

  pub starting_from_and : Starting (from_and depth some)
  unfolding from_and
  starting_from_and k = starts_either k (named (codes "and")) (all_of depth some) (from_not depth) (good_all_of k) (starting_from_not depth k).tries

  pub starting_in_bracket : Starting (in_bracket depth some)
  unfolding in_bracket
  starting_in_bracket k =
      starts_either k right (made nothing_made (pure tt)) (from_and depth some) (good_made k nothing_made (pure tt) (good_pure k tt)) (starting_from_and k).tries

pub good_no_parts : (k : ℕ) → Good k no_parts
unfolding no_parts
good_no_parts k = good_made k (λ (u : Unit {0}). []) (expect right) (closes k)

opened : (k : ℕ) (p : Reader Effect) → Starting p → Starts k (after (expect left) p)
opened k p starting = starts_after k (expect left) p (starts_expect k left) (good_of k p (starting k))

pub starting_effect : (depth : ℕ) → Starting (effect depth)
unfolding effect
starting_effect zero k = opened k (in_bracket zero no_parts) (starting_in_bracket zero no_parts good_no_parts)
starting_effect (suc depth) k =
    opened k (in_bracket (suc depth) (row (effect depth))) (starting_in_bracket (suc depth) (row (effect depth)) (good_row (effect depth) (starting_effect depth)))

pub good_parts : (depth k : ℕ) → Good k (parts depth)
unfolding parts
good_parts zero k = good_no_parts k
good_parts (suc depth) k = good_row (effect depth) (starting_effect depth) k
