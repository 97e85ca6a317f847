-- What a lexer takes is read as a condition.
use Rattle.std.proofs.Common.{◌≡◌, ◌-◌, ◌<◌, ℕ, zero, suc, Bool, true, false, cond, List, [], ◌∷◌, Option, None, Some, Result, Ok, Err, refl, sym, ap, subst, ◌∙◌, arith, codes}
use Rattle.np_lex.specs.declared.reading.Lexer.{Lexer}
use Rattle.np_lex.specs.declared.token.Kind.{Kind}
use Rattle.np_lex.specs.declared.token.Kind.TheVariants as kind
use Rattle.np_lex.specs.declared.token.Place.{Place}
use Rattle.np_lex.specs.Lexers.{items_left, Leaves, Takes}
use Rattle.np_lex.specs.Tokens.{Lexeme, Item, left, right, named, lower, first_place}
use Rattle.np_read.specs.declared.fault.ReadFault.{ReadFault}
use Rattle.np_read.specs.ItemAnswers.{Gives}
use Rattle.np_read.specs.ItemReaders.{Outcome, Reader, pure, expect, after, made, row}
use Rattle.np_read.specs.PlacedReaders.{either_by}
use Rattle.np_read.specs.Same.{same_kind}
use Rattle.np_read.specs.Takes.{lexeme, TakesAt}
use Rattle.np_read.proofs.Same.{same_kind_true}
use Rattle.np_read.proofs.ItemLexing.{first_taken}
use Rattle.np_read.proofs.PlacedLexing.{token_taken, token_refused, token_missing, either_by_read, either_by_unread, refused_whole}
use Rattle.np_words.specs.declared.word.Word.{Word}
use Rattle.np_conditions.specs.declared.condition.Op.{Op}
use Rattle.np_conditions.specs.declared.condition.Side.TheVariants as side
use Rattle.np_conditions.specs.declared.condition.Condition.{Condition}
use Rattle.np_conditions.specs.declared.condition.Condition.TheVariants as c
use Rattle.np_conditions.specs.ConditionForm.{op_in, op_of, comparison, place_in, expr_side, one_side, not_same, not_compared, not_atom, not_from_compare, in_not, negated, compared, some_atom, from_compare, equal, from_equal, from_not, all_of, from_and, in_bracket, no_parts, condition, parts}
use Rattle.np_words.specs.ExprForm.{expr}
use Rattle.np_words.specs.ReadingForm.{variable, variable_of}
use Rattle.np_words.specs.Text.{operator_lexeme}
use Rattle.np_conditions.proofs.ConditionReads.{variable_made}
use Rattle.np_conditions.proofs.ConditionStarts.{starting_some_atom, starting_not_atom, starting_expr_side, starting_not_from_compare, starting_from_compare, starting_from_equal, starting_from_not, starting_from_and, good_parts}
use Rattle.np_words.proofs.ExprLexing.{gives_first, gives_second}

abbrev Given : List Item → Result Condition ReadFault → Outcome Condition → Type 0
Given rest r read = Gives (λ x. x) rest r read

-- ---- a comparison

module _ (follow : Op → Reader Condition) (other : Reader Condition) (nothing : other [] ≡ Err []) (items rest last : List Item) (r : Result Condition ReadFault) where
  by_op : (op : Op) → comparison items ≡ Ok (op, rest) → Given last r (follow op rest) → Given last r (either_by op_of follow other items)
  unfolding comparison
  by_op op read gives = subst (λ (x : Outcome Condition). Given last r x) (sym (either_by_read op_of follow other items op rest read)) gives

  by_no_op : comparison items ≡ Err rest → Given last r (other rest) → Given last r (either_by op_of follow other items)
  unfolding comparison
  by_no_op read gives =
      subst (λ (x : Outcome Condition). Given last r x) (sym (either_by_unread op_of follow other nothing items rest read ∙ ap other (refused_whole op_of items rest read))) gives

-- ---- the kinds

module _ (depth : ℕ) (old new : Lexer) (rest : List Item) (r : Result Condition ReadFault) where
  pub not_op : (op : Op) → comparison (items_left old) ≡ Ok (op, items_left new) → Given rest r (not_compared depth op (items_left new)) → Given rest r (not_from_compare depth (items_left old))
  unfolding not_from_compare
  not_op op read gives = by_op (not_compared depth) not_atom (starting_not_atom 0).tries.nothing (items_left old) (items_left new) rest r op read gives

  pub not_no_op : comparison (items_left old) ≡ Err (items_left new) → Given rest r (not_atom (items_left new)) → Given rest r (not_from_compare depth (items_left old))
  unfolding not_from_compare
  not_no_op read gives = by_no_op (not_compared depth) not_atom (starting_not_atom 0).tries.nothing (items_left old) (items_left new) rest r read gives

  pub not_same_taken : Takes old new (operator_lexeme (codes "=")) → Given rest r (not_same (items_left new)) → Given rest r (in_not depth (items_left old))
  unfolding in_not
  not_same_taken takes gives = gives_first (operator_lexeme (codes "=")) not_same (not_from_compare depth) old new (λ x. x) rest r takes gives

  pub not_same_left : Leaves old new (λ found. found ≡ operator_lexeme (codes "=")) → Given rest r (not_from_compare depth (items_left new)) → Given rest r (in_not depth (items_left old))
  unfolding in_not
  not_same_left leaves gives =
      gives_second (operator_lexeme (codes "=")) not_same (not_from_compare depth) old new (λ x. x) rest r (starting_not_from_compare depth 0).tries.nothing leaves gives

  pub op_taken : (op : Op) → comparison (items_left old) ≡ Ok (op, items_left new) → Given rest r (compared depth op (items_left new)) → Given rest r (from_compare depth (items_left old))
  unfolding from_compare
  op_taken op read gives = by_op (compared depth) some_atom (starting_some_atom 0).tries.nothing (items_left old) (items_left new) rest r op read gives

  pub op_left : comparison (items_left old) ≡ Err (items_left new) → Given rest r (some_atom (items_left new)) → Given rest r (from_compare depth (items_left old))
  unfolding from_compare
  op_left read gives = by_no_op (compared depth) some_atom (starting_some_atom 0).tries.nothing (items_left old) (items_left new) rest r read gives

  pub equal_taken : Takes old new (operator_lexeme (codes "=")) → Given rest r (equal depth (items_left new)) → Given rest r (from_equal depth (items_left old))
  unfolding from_equal
  equal_taken takes gives = gives_first (operator_lexeme (codes "=")) (equal depth) (from_compare depth) old new (λ x. x) rest r takes gives

  pub equal_left : Leaves old new (λ found. found ≡ operator_lexeme (codes "=")) → Given rest r (from_compare depth (items_left new)) → Given rest r (from_equal depth (items_left old))
  unfolding from_equal
  equal_left leaves gives =
      gives_second (operator_lexeme (codes "=")) (equal depth) (from_compare depth) old new (λ x. x) rest r (starting_from_compare depth 0).tries.nothing leaves gives

  pub and_taken : Takes old new (named (codes "and")) → Given rest r (all_of depth (parts depth) (items_left new)) → Given rest r (from_and depth (parts depth) (items_left old))
  unfolding from_and
  and_taken takes gives = gives_first (named (codes "and")) (all_of depth (parts depth)) (from_not depth) old new (λ x. x) rest r takes gives

  pub and_left : Leaves old new (λ found. found ≡ named (codes "and")) → Given rest r (from_not depth (items_left new)) → Given rest r (from_and depth (parts depth) (items_left old))
  unfolding from_and
  and_left leaves gives =
      gives_second (named (codes "and")) (all_of depth (parts depth)) (from_not depth) old new (λ x. x) rest r (starting_from_not depth 0).tries.nothing leaves gives

  pub nothing_left : Leaves old new (λ found. found ≡ right) → Given rest r (from_and depth (parts depth) (items_left new)) → Given rest r (in_bracket depth (parts depth) (items_left old))
  unfolding in_bracket
  nothing_left leaves gives =
      gives_second right (made (λ (u : Unit {0}). c.Nothing) (pure tt)) (from_and depth (parts depth)) old new (λ x. x) rest r (starting_from_and depth (parts depth) (good_parts depth) 0).tries.nothing leaves gives

pub nothing_taken : (depth : ℕ) (old new : Lexer) → Takes old new right → in_bracket depth (parts depth) (items_left old) ≡ Ok (c.Nothing, items_left new)
unfolding in_bracket
nothing_taken depth old new takes = first_taken right (made (λ (u : Unit {0}). c.Nothing) (pure tt)) (from_and depth (parts depth)) old new takes

-- ---- `not`, where a bracket may be opened

pub not_taken : (depth : ℕ) (old new : Lexer) (rest : List Item) (r : Result Condition ReadFault) → 0 < depth → Takes old new (named (codes "not")) → Given rest r (negated (depth - 1) (items_left new)) → Given rest r (from_not depth (items_left old))
unfolding from_not
not_taken zero old new rest r lt takes gives = absurd (omega arith)
not_taken (suc depth) old new rest r lt takes gives =
    let same : suc depth - 1 ≡ depth = omega arith in
    gives_first (named (codes "not")) (negated depth) (from_equal (suc depth)) old new (λ x. x) rest r takes (subst (λ (k : ℕ). Given rest r (negated k (items_left new))) same gives)

pub not_left : (depth : ℕ) (old new : Lexer) (rest : List Item) (r : Result Condition ReadFault) → 0 < depth → Leaves old new (λ found. found ≡ named (codes "not")) → Given rest r (from_equal depth (items_left new)) → Given rest r (from_not depth (items_left old))
unfolding from_not
not_left zero old new rest r lt leaves gives = absurd (omega arith)
not_left (suc depth) old new rest r lt leaves gives =
    gives_second (named (codes "not")) (negated depth) (from_equal (suc depth)) old new (λ x. x) rest r (starting_from_equal (suc depth) 0).tries.nothing leaves gives

pub not_none : (depth : ℕ) (items rest : List Item) (r : Result Condition ReadFault) → depth ≡ 0 → Given rest r (from_equal depth items) → Given rest r (from_not depth items)
unfolding from_not
not_none zero items rest r is gives = gives
not_none (suc depth) items rest r is gives = absurd (omega arith)

-- ---- conditions

pub condition_is : (depth : ℕ) (items : List Item) → condition depth items ≡ after (expect left) (in_bracket depth (parts depth)) items
unfolding condition parts
condition_is zero items = refl
condition_is (suc depth) items = refl

pub parts_none : (depth : ℕ) (items rest : List Item) (r : Result (List Condition) ReadFault) → depth ≡ 0 → Gives (λ x. x) rest r (no_parts items) → Gives (λ x. x) rest r (parts depth items)
unfolding parts
parts_none zero items rest r is gives = gives
parts_none (suc depth) items rest r is gives = absurd (omega arith)

pub parts_some : (depth : ℕ) (items rest : List Item) (r : Result (List Condition) ReadFault) → 0 < depth → Gives (λ x. x) rest r (row (condition (depth - 1)) items) → Gives (λ x. x) rest r (parts depth items)
unfolding parts
parts_some zero items rest r lt gives = absurd (omega arith)
parts_some (suc depth) items rest r lt gives =
    let same : suc depth - 1 ≡ depth = omega arith in
    subst (λ (k : ℕ). Gives (λ x. x) rest r (row (condition k) items)) same gives

-- ---- sides

pub side_variable : (depth : ℕ) (items rest : List Item) (w : Word) → variable items ≡ Ok (w, rest) → one_side depth items ≡ Ok (side.Variable w, rest)
unfolding one_side variable
side_variable depth items rest w is = either_by_read variable_of (λ v. made (variable_made v) (pure tt)) (expr_side depth) items w rest is

pub side_expr : (depth : ℕ) (items rest : List Item) → variable items ≡ Err rest → one_side depth items ≡ expr_side depth rest
unfolding one_side variable
side_expr depth items rest is =
    either_by_unread variable_of (λ v. made (variable_made v) (pure tt)) (expr_side depth) (starting_expr_side depth 0).tries.nothing items rest is ∙ ap (expr_side depth) (refused_whole variable_of items rest is)

place_is : (items : List Item) (place : Place) → first_place items ≡ Some place → place_in items ≡ place
place_is [] place is = absurd cc
place_is (item ∷ items) place is = (let same : item.place ≡ place = cc in same)

pub side_placed : (depth : ℕ) (items : List Item) (place : Place) → first_place items ≡ Some place → expr_side depth items ≡ made (λ v. side.Expr v place) (expr depth) items
unfolding expr_side
side_placed depth items place is = ap (λ (at : Place). made (λ v. side.Expr v at) (expr depth) items) (place_is items place is)

-- ---- the comparison that comes next

other_op_by : (place : Place) (found : Lexeme) (same : Bool) → same_kind found.kind kind.Op ≡ same → (found.kind ≡ kind.Op → ⊥) → cond same (op_in found.text) None ≡ None
other_op_by place found true is never = absurd (never (same_kind_true found.kind kind.Op is))
other_op_by place found false is never = refl

other_op : (place : Place) (found : Lexeme) → (found.kind ≡ kind.Op → ⊥) → op_of place found ≡ None
other_op place found never = other_op_by place found (same_kind found.kind kind.Op) refl never

pub comparison_missing : (old new : Lexer) → Leaves old new (λ found. found.kind ≡ kind.Op) → comparison (items_left old) ≡ Err (items_left new)
unfolding comparison
comparison_missing old new leaves = token_missing op_of old new (λ found. found.kind ≡ kind.Op) other_op leaves

module _ (old new : Lexer) (k : Kind) (bytes : List ℕ) (place : Place) (is : k ≡ kind.Op) (takes : TakesAt old new (lexeme k (lower bytes)) place) where
  op_says_by : (o : Option Op) → op_in (lower bytes) ≡ o → op_of place (lexeme k (lower bytes)) ≡ o
  op_says_by o e = ap (λ (j : Kind). op_of place (lexeme j (lower bytes))) is ∙ e

  pub comparison_refused : op_in (lower bytes) ≡ None → comparison (items_left old) ≡ Err (items_left old)
  unfolding comparison
  comparison_refused e = token_refused op_of old new (lexeme k (lower bytes)) place takes (op_says_by None e)

  pub comparison_taken : (op : Op) → op_in (lower bytes) ≡ Some op → comparison (items_left old) ≡ Ok (op, items_left new)
  unfolding comparison
  comparison_taken op e = token_taken op_of old new (lexeme k (lower bytes)) place op takes (op_says_by (Some op) e)
