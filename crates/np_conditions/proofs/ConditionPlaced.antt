-- Conditions keep the places of their words, numbers and sides.
use Rattle.std.proofs.Common.{◌≡◌, inl, inr, ℕ, zero, suc, List, [], ◌∷◌, refl, sym, ap, subst, ◌∙◌, codes}
use Rattle.std.specs.List.{All}
use Rattle.np_lex.specs.Tokens.{Lexeme, Item, word, left, right, named}
use Rattle.np_read.specs.Marks.{Mark, Marking, Fits, each}
use Rattle.np_read.specs.ItemReaders.{Reader, expect, after, row}
use Rattle.np_read.proofs.Marked.{Placed, plain, placed_pure, placed_expect, placed_either, placed_same, placed_again, placed_both, placed_made, placed_after, placed_before, placed_row}
use Rattle.np_read.proofs.PlacedParts.{SaysMarked, says_marked, placed_either_made, placed_either_by}
use Rattle.np_read.proofs.Spelled.{Made}
use Rattle.np_words.specs.declared.word.Word.{Word}
use Rattle.np_words.specs.declared.word.Ident.{Ident}
use Rattle.np_words.specs.declared.expr.Expr.{Expr}
use Rattle.np_conditions.specs.declared.condition.Op.{Op}
use Rattle.np_conditions.specs.declared.condition.Side.{Side}
use Rattle.np_conditions.specs.declared.condition.Condition.{Condition, out-Condition}
use Rattle.np_conditions.specs.ConditionForm.{op_of, operands, atom, expr_side, one_side, last_side, not_same, not_compared, not_atom, not_from_compare, in_not, negated, compared, some_atom, from_compare, equal, from_equal, from_not, all_of, from_and, in_bracket, no_parts, condition, place_in}
use Rattle.np_conditions.specs.ConditionText.{op_text, IsSide, IsConditionOf, IsCondition}
use Rattle.np_conditions.specs.ConditionText as printed
use Rattle.np_words.specs.ExprForm.{expr}
use Rattle.np_words.specs.ExprText.{IsExpr}
use Rattle.np_words.specs.ExprText as expressions
use Rattle.np_words.specs.ReadingForm.{variable, variable_of}
use Rattle.np_words.specs.Text.{marked, operator_lexeme, variable_lexeme}
use Rattle.np_words.specs.Text as text
use Rattle.np_words.specs.Written.{IsWord}
use Rattle.np_conditions.proofs.ConditionKinds.{nothing_made, and_made, atom_made, not_atom_made, compare_made, not_compare_made, equal_made, not_same_made, IsAnyOp, GoodAtom, GoodOperands, NotFromCompare, Negated, FromCompare, FromEqual, FromNot, FromAnd, enclosed_is}
use Rattle.np_conditions.proofs.ConditionReads.{op_spelled, expr_made, variable_made, side_is, no_made, none_is}
use Rattle.np_conditions.proofs.ConditionTexts.{text_nothing, text_and, text_atom, text_not_atom, text_compare, text_not_compare, text_equal, text_not_same, opens}
use Rattle.np_words.proofs.ExprBegins.{begins_expr}
use Rattle.np_words.proofs.ExprPlaced.{mark_idents, placed_idents, placed_last, placed_expr}
use Rattle.np_words.proofs.ExprPlaced as exprs
use Rattle.np_words.proofs.ExprTexts.{tail_of}
use Rattle.np_words.proofs.ReadingWords.{placed_name, placed_variable, placed_identifier}
use Rattle.np_conditions.proofs.Sides.{MadeAt, placed_kept, begins_more}

abbrev pub marks : Condition → Marking
marks = printed.condition marked

-- what follows the first bracket, and what follows the bracket after `not`
abbrev body : Condition → Marking
body v ms = tail_of (marks v ms)

abbrev third_tail : List Mark → List Mark
third_tail ms = tail_of (tail_of (tail_of ms))

abbrev inner : Condition → Marking
inner v ms = third_tail (marks v ms)

-- ---- parts

abbrev op_mark : Op → Mark
op_mark op = plain (operator_lexeme (op_text op))

op_marked : SaysMarked op_of IsAnyOp op_mark
op_marked place lexeme op e = (tt, record { piece = ap (λ (l : Lexeme). word l) (op_spelled place lexeme op e).1; places = tt })

abbrev mark_operands : Expr × Expr → Marking
mark_operands x ms = exprs.marks x.0 (exprs.marks x.1 (plain right ∷ ms))

placed_operands : (depth : ℕ) → Placed (GoodOperands depth) mark_operands (operands depth)
unfolding operands
placed_operands depth = placed_both (placed_expr depth) (placed_last (IsExpr depth) (expr depth) (placed_expr depth))

abbrev pub mark_atom : Word × List Ident → Marking
mark_atom x ms = text.name marked x.0 (mark_idents x.1 ms)

pub placed_atom : Placed GoodAtom mark_atom atom
unfolding atom
placed_atom = placed_both placed_name placed_idents

-- ---- sides

abbrev mark_side : Side → Marking
mark_side = printed.side_text marked

expr_more : (depth : ℕ) (v : Expr) (items : List Item) (ms : List Mark) (others : List Item) → IsExpr depth v → Fits items (expressions.expr_at marked v [] ms) others
    → Fits items (expressions.expr_at marked v (place_in items ∷ []) ms) others
expr_more depth v items ms others h fits = begins_more (λ places. expressions.expr_at marked v places ms) (begins_expr marked v ms) items others fits

placed_expr_side : (depth : ℕ) → Placed (MadeAt expr_made (expr depth) (IsExpr depth)) mark_side (expr_side depth)
unfolding expr_side
placed_expr_side depth = placed_kept expr_made (expr depth) (expressions.expr_at marked) mark_side (λ v place ms. refl) (expr_more depth) (placed_expr depth)

pub placed_side : (depth : ℕ) → Placed (IsSide depth) mark_side (one_side depth)
unfolding one_side variable
placed_side depth =
    placed_same (IsSide depth) (side_is depth)
    (placed_either_by variable_of IsWord variable_made (λ w. marked (w.place ∷ []) (variable_lexeme w.text)) (says_marked variable_of _ placed_variable) (λ w u ms. refl) (placed_pure tt) (placed_expr_side depth))

placed_last_side : (depth : ℕ) → Placed (IsSide depth) (λ (s : Side) (ms : List Mark). mark_side s (plain right ∷ ms)) (last_side depth)
unfolding last_side
placed_last_side depth = placed_before (placed_side depth) (placed_expect right)

-- ---- what `not` encloses

placed_not_atom : Placed (Made not_atom_made GoodAtom) inner not_atom
unfolding not_atom
placed_not_atom = placed_made not_atom_made inner (λ x ms. ap third_tail (text_not_atom marked x.0 x.1 ms)) (placed_before placed_atom (placed_expect right))

placed_not_from_compare : (depth : ℕ) → Placed (NotFromCompare depth) inner (not_from_compare depth)
unfolding not_from_compare not_compared
placed_not_from_compare depth =
    placed_either_by op_of IsAnyOp not_compare_made op_mark op_marked (λ op x ms. ap third_tail (text_not_compare marked op x.0 x.1 ms)) (placed_before (placed_operands depth) (placed_expect right)) placed_not_atom

placed_in_not : (depth : ℕ) → Placed (Negated depth) inner (in_not depth)
unfolding in_not not_same
placed_in_not depth =
    placed_either_made (operator_lexeme (codes "=")) not_same_made (λ x ms. ap third_tail (text_not_same marked x.0 x.1 ms))
    (placed_before (placed_both placed_identifier (placed_before placed_identifier (placed_expect right))) (placed_expect right)) (placed_not_from_compare depth)

placed_negated : (depth : ℕ) → Placed (Negated depth) (λ (v : Condition) (ms : List Mark). plain left ∷ inner v ms) (negated depth)
unfolding negated
placed_negated depth = placed_after (placed_expect left) (placed_in_not depth)

not_begun : (v w : Condition) → w ≡ v → (ms rest : List Mark) → marks w ms ≡ plain left ∷ plain (named (codes "not")) ∷ plain left ∷ rest → body v ms ≡ plain (named (codes "not")) ∷ plain left ∷ inner v ms
not_begun v w is ms rest so =
    subst (λ (x : Condition). body x ms ≡ plain (named (codes "not")) ∷ plain left ∷ inner x ms) is
    (ap tail_of so ∙ sym (ap (λ (ts : List Mark). plain (named (codes "not")) ∷ plain left ∷ third_tail ts) so))

negated_begins : (depth : ℕ) (v : Condition) (ms : List Mark) → Negated depth v → body v ms ≡ plain (named (codes "not")) ∷ plain left ∷ inner v ms
negated_begins depth v ms (inl h) = not_begun v (not_same_made h.1) h.2 ms _ (text_not_same marked h.1.0 h.1.1 ms)
negated_begins depth v ms (inr (inl h)) = not_begun v (not_compare_made h.0 h.1) h.2 ms _ (text_not_compare marked h.0 h.1.0 h.1.1 ms)
negated_begins depth v ms (inr (inr h)) = not_begun v (not_atom_made h.0) h.1 ms _ (text_not_atom marked h.0.0 h.0.1 ms)

-- ---- what a condition's bracket encloses

placed_some_atom : Placed (Made atom_made GoodAtom) body some_atom
unfolding some_atom
placed_some_atom = placed_made atom_made body (λ x ms. ap tail_of (text_atom marked x.0 x.1 ms)) placed_atom

placed_from_compare : (depth : ℕ) → Placed (FromCompare depth) body (from_compare depth)
unfolding from_compare compared
placed_from_compare depth =
    placed_either_by op_of IsAnyOp compare_made op_mark op_marked (λ op x ms. ap tail_of (text_compare marked op x.0 x.1 ms)) (placed_operands depth) placed_some_atom

placed_from_equal : (depth : ℕ) → Placed (FromEqual depth) body (from_equal depth)
unfolding from_equal equal
placed_from_equal depth =
    placed_either_made (operator_lexeme (codes "=")) equal_made (λ x ms. ap tail_of (text_equal marked x.0 x.1 ms)) (placed_both (placed_side depth) (placed_last_side depth)) (placed_from_compare depth)

placed_from_not : (depth : ℕ) → Placed (FromNot depth) body (from_not depth)
unfolding from_not
placed_from_not zero = placed_from_equal zero
placed_from_not (suc depth) = placed_either (named (codes "not")) (placed_negated depth) (placed_from_equal (suc depth)) (λ v ms h. negated_begins depth v ms h)

abbrev mark_parts : List Condition → Marking
mark_parts parts ms = each marks parts (plain right ∷ ms)

module _ (depth : ℕ) (P : Condition → Type 0) (some : Reader (List Condition)) (keeps : Placed (All P) mark_parts some) where
  placed_from_and : Placed (FromAnd depth P) body (from_and depth some)
  unfolding from_and all_of
  placed_from_and = placed_either_made (named (codes "and")) and_made (λ parts ms. ap tail_of (text_and marked parts ms)) keeps (placed_from_not depth)

  placed_in_bracket : Placed (λ (v : Condition). IsConditionOf depth P (out-Condition v)) body (in_bracket depth some)
  unfolding in_bracket
  placed_in_bracket =
      placed_same (λ v. IsConditionOf depth P (out-Condition v)) (enclosed_is depth P)
      (placed_either_made right nothing_made (λ u ms. ap tail_of (text_nothing marked ms)) (placed_pure tt) placed_from_and)

  placed_opened : Placed (λ (v : Condition). IsConditionOf depth P (out-Condition v)) marks (after (expect left) (in_bracket depth some))
  placed_opened = placed_again marks (λ v ms h. opens marked v ms) (placed_after (placed_expect left) placed_in_bracket)

placed_no_parts : Placed (All (IsCondition 0)) mark_parts no_parts
unfolding no_parts
placed_no_parts = placed_same (All (IsCondition 0)) none_is (placed_made no_made mark_parts (λ u ms. refl) (placed_expect right))

pub placed_condition : (depth : ℕ) → Placed (IsCondition (suc depth)) marks (condition depth)
unfolding condition
placed_condition zero = placed_opened zero (IsCondition 0) no_parts placed_no_parts
placed_condition (suc depth) = placed_opened (suc depth) (IsCondition (suc depth)) (row (condition depth)) (placed_row (placed_condition depth))
