-- What a lexer takes is read as an effect.
use Rattle.std.proofs.Common.{◌≡◌, ◌-◌, ◌<◌, ℕ, zero, suc, List, Result, Ok, refl, subst, arith, codes}
use Rattle.np_lex.specs.declared.reading.Lexer.{Lexer}
use Rattle.np_lex.specs.Lexers.{items_left, Leaves, Takes}
use Rattle.np_lex.specs.Tokens.{Item, left, right, named}
use Rattle.np_read.specs.declared.fault.ReadFault.{ReadFault}
use Rattle.np_read.specs.ItemAnswers.{Gives}
use Rattle.np_read.specs.ItemReaders.{Outcome, pure, expect, after, made, row}
use Rattle.np_read.proofs.ItemLexing.{first_taken}
use Rattle.np_conditions.specs.declared.effect.Effect.{Effect}
use Rattle.np_conditions.specs.declared.effect.Effect.TheVariants as e
use Rattle.np_conditions.specs.EffectForm.{Target, bare_target, called_target, target, added, decreased, from_decrease, increased, from_increase, deleted, from_not, all_of, from_and, in_bracket, no_parts, effect, parts}
use Rattle.np_conditions.proofs.EffectStarts.{starting_bare_target, starting_added, starting_from_decrease, starting_from_increase, starting_from_not, starting_from_and, good_parts}
use Rattle.np_words.proofs.ExprLexing.{gives_first, gives_second}

abbrev Given : List Item → Result Effect ReadFault → Outcome Effect → Type 0
Given rest r read = Gives (λ x. x) rest r read

module _ (depth : ℕ) (old new : Lexer) (rest : List Item) (r : Result Effect ReadFault) where
  pub decrease_taken : Takes old new (named (codes "decrease")) → Given rest r (decreased depth (items_left new)) → Given rest r (from_decrease depth (items_left old))
  unfolding from_decrease
  decrease_taken takes gives = gives_first (named (codes "decrease")) (decreased depth) added old new (λ x. x) rest r takes gives

  pub decrease_left : Leaves old new (λ found. found ≡ named (codes "decrease")) → Given rest r (added (items_left new)) → Given rest r (from_decrease depth (items_left old))
  unfolding from_decrease
  decrease_left leaves gives = gives_second (named (codes "decrease")) (decreased depth) added old new (λ x. x) rest r (starting_added 0).tries.nothing leaves gives

  pub increase_taken : Takes old new (named (codes "increase")) → Given rest r (increased depth (items_left new)) → Given rest r (from_increase depth (items_left old))
  unfolding from_increase
  increase_taken takes gives = gives_first (named (codes "increase")) (increased depth) (from_decrease depth) old new (λ x. x) rest r takes gives

  pub increase_left : Leaves old new (λ found. found ≡ named (codes "increase")) → Given rest r (from_decrease depth (items_left new)) → Given rest r (from_increase depth (items_left old))
  unfolding from_increase
  increase_left leaves gives =
      gives_second (named (codes "increase")) (increased depth) (from_decrease depth) old new (λ x. x) rest r (starting_from_decrease depth 0).tries.nothing leaves gives

  pub and_taken : Takes old new (named (codes "and")) → Given rest r (all_of depth (parts depth) (items_left new)) → Given rest r (from_and depth (parts depth) (items_left old))
  unfolding from_and
  and_taken takes gives = gives_first (named (codes "and")) (all_of depth (parts depth)) (from_not depth) old new (λ x. x) rest r takes gives

  pub and_left : Leaves old new (λ found. found ≡ named (codes "and")) → Given rest r (from_not depth (items_left new)) → Given rest r (from_and depth (parts depth) (items_left old))
  unfolding from_and
  and_left leaves gives =
      gives_second (named (codes "and")) (all_of depth (parts depth)) (from_not depth) old new (λ x. x) rest r (starting_from_not depth 0).tries.nothing leaves gives

  pub nothing_left : Leaves old new (λ found. found ≡ right) → Given rest r (from_and depth (parts depth) (items_left new)) → Given rest r (in_bracket depth (parts depth) (items_left old))
  unfolding in_bracket
  nothing_left leaves gives =
      gives_second right (made (λ (u : Unit {0}). e.Nothing) (pure tt)) (from_and depth (parts depth)) old new (λ x. x) rest r (starting_from_and depth (parts depth) (good_parts depth) 0).tries.nothing leaves gives

pub nothing_taken : (depth : ℕ) (old new : Lexer) → Takes old new right → in_bracket depth (parts depth) (items_left old) ≡ Ok (e.Nothing, items_left new)
unfolding in_bracket
nothing_taken depth old new takes = first_taken right (made (λ (u : Unit {0}). e.Nothing) (pure tt)) (from_and depth (parts depth)) old new takes

-- ---- where a bracket may be opened

pub not_taken : (depth : ℕ) (old new : Lexer) (rest : List Item) (r : Result Effect ReadFault) → 0 < depth → Takes old new (named (codes "not")) → Given rest r (deleted (items_left new)) → Given rest r (from_not depth (items_left old))
unfolding from_not
not_taken zero old new rest r lt takes gives = absurd (omega arith)
not_taken (suc depth) old new rest r lt takes gives = gives_first (named (codes "not")) deleted (from_increase (suc depth)) old new (λ x. x) rest r takes gives

pub not_left : (depth : ℕ) (old new : Lexer) (rest : List Item) (r : Result Effect ReadFault) → 0 < depth → Leaves old new (λ found. found ≡ named (codes "not")) → Given rest r (from_increase depth (items_left new)) → Given rest r (from_not depth (items_left old))
unfolding from_not
not_left zero old new rest r lt leaves gives = absurd (omega arith)
not_left (suc depth) old new rest r lt leaves gives =
    gives_second (named (codes "not")) deleted (from_increase (suc depth)) old new (λ x. x) rest r (starting_from_increase (suc depth) 0).tries.nothing leaves gives

pub not_none : (depth : ℕ) (items rest : List Item) (r : Result Effect ReadFault) → depth ≡ 0 → Given rest r (from_increase depth items) → Given rest r (from_not depth items)
unfolding from_not
not_none zero items rest r is gives = gives
not_none (suc depth) items rest r is gives = absurd (omega arith)

-- ---- targets

abbrev Targeted : List Item → Result Target ReadFault → Outcome Target → Type 0
Targeted rest r read = Gives (λ x. x) rest r read

pub target_called : (depth : ℕ) (old new : Lexer) (rest : List Item) (r : Result Target ReadFault) → 0 < depth → Takes old new left → Targeted rest r (called_target (items_left new)) → Targeted rest r (target depth (items_left old))
unfolding target
target_called zero old new rest r lt takes gives = absurd (omega arith)
target_called (suc depth) old new rest r lt takes gives = gives_first left called_target bare_target old new (λ x. x) rest r takes gives

pub target_alone : (depth : ℕ) (old new : Lexer) (rest : List Item) (r : Result Target ReadFault) → 0 < depth → Leaves old new (λ found. found ≡ left) → Targeted rest r (bare_target (items_left new)) → Targeted rest r (target depth (items_left old))
unfolding target
target_alone zero old new rest r lt leaves gives = absurd (omega arith)
target_alone (suc depth) old new rest r lt leaves gives = gives_second left called_target bare_target old new (λ x. x) rest r (starting_bare_target 0).tries.nothing leaves gives

pub target_none : (depth : ℕ) (items rest : List Item) (r : Result Target ReadFault) → depth ≡ 0 → Targeted rest r (bare_target items) → Targeted rest r (target depth items)
unfolding target
target_none zero items rest r is gives = gives
target_none (suc depth) items rest r is gives = absurd (omega arith)

-- ---- effects

pub effect_is : (depth : ℕ) (items : List Item) → effect depth items ≡ after (expect left) (in_bracket depth (parts depth)) items
unfolding effect parts
effect_is zero items = refl
effect_is (suc depth) items = refl

pub parts_none : (depth : ℕ) (items rest : List Item) (r : Result (List Effect) ReadFault) → depth ≡ 0 → Gives (λ x. x) rest r (no_parts items) → Gives (λ x. x) rest r (parts depth items)
unfolding parts
parts_none zero items rest r is gives = gives
parts_none (suc depth) items rest r is gives = absurd (omega arith)

pub parts_some : (depth : ℕ) (items rest : List Item) (r : Result (List Effect) ReadFault) → 0 < depth → Gives (λ x. x) rest r (row (effect (depth - 1)) items) → Gives (λ x. x) rest r (parts depth items)
unfolding parts
parts_some zero items rest r lt gives = absurd (omega arith)
parts_some (suc depth) items rest r lt gives =
    let same : suc depth - 1 ≡ depth = omega arith in
    subst (λ (k : ℕ). Gives (λ x. x) rest r (row (effect k) items)) same gives
