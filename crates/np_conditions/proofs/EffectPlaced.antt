-- Effects keep the places of their words and numbers.
use Rattle.std.proofs.Common.{◌≡◌, ℕ, zero, suc, List, ◌∷◌, refl, sym, ap, subst, ◌∙◌, codes}
use Rattle.std.specs.List.{All}
use Rattle.np_lex.specs.Tokens.{left, right, named}
use Rattle.np_read.specs.Marks.{Mark, Marking, each}
use Rattle.np_read.specs.ItemReaders.{Reader, expect, after, row}
use Rattle.np_read.proofs.Marked.{Placed, plain, placed_pure, placed_expect, placed_either, placed_same, placed_again, placed_both, placed_made, placed_after, placed_before, placed_row}
use Rattle.np_read.proofs.PlacedParts.{placed_either_made}
use Rattle.np_read.proofs.Spelled.{Made}
use Rattle.np_words.specs.declared.expr.Expr.{Expr}
use Rattle.np_conditions.specs.declared.effect.Effect.{Effect, out-Effect}
use Rattle.np_conditions.specs.EffectForm.{Target, bare_target, called_target, target, change, added, decreased, from_decrease, increased, from_increase, deleted, from_not, all_of, from_and, in_bracket, no_parts, effect}
use Rattle.np_conditions.specs.EffectText.{IsEffectOf, IsEffect}
use Rattle.np_conditions.specs.EffectText as printed
use Rattle.np_words.specs.ExprForm.{expr}
use Rattle.np_words.specs.ExprText.{IsExpr}
use Rattle.np_words.specs.Text.{marked}
use Rattle.np_conditions.proofs.ConditionKinds.{GoodAtom}
use Rattle.np_conditions.proofs.ConditionPlaced.{placed_atom}
use Rattle.np_conditions.proofs.EffectKinds.{alone_made, called_made, GoodTarget, IsAlone, target_is, nothing_made, and_made, add_made, delete_made, increase_made, decrease_made, GoodChange, IsDeleted, FromDecrease, FromIncrease, FromNot, FromAnd, enclosed_is}
use Rattle.np_conditions.proofs.EffectReads.{no_made, none_is}
use Rattle.np_conditions.proofs.EffectTexts.{text_nothing, text_and, text_add, text_delete, text_increase, text_decrease, opens}
use Rattle.np_words.proofs.ExprPlaced.{placed_last, placed_expr}
use Rattle.np_words.proofs.ExprPlaced as exprs
use Rattle.np_words.proofs.ExprTexts.{tail_of}
use Rattle.np_words.proofs.ReadingWords.{placed_name}

abbrev pub marks : Effect → Marking
marks = printed.effect marked

-- what follows the first bracket, and what follows the bracket after `not`
abbrev body : Effect → Marking
body v ms = tail_of (marks v ms)

abbrev third_tail : List Mark → List Mark
third_tail ms = tail_of (tail_of (tail_of ms))

abbrev inner : Effect → Marking
inner v ms = third_tail (marks v ms)

-- ---- targets

abbrev mark_target : Target → Marking
mark_target x ms = printed.target_text marked x.0 x.1 x.2 ms

placed_alone : Placed IsAlone mark_target bare_target
unfolding bare_target
placed_alone = placed_made alone_made mark_target (λ w ms. refl) placed_name

placed_target : (depth : ℕ) → Placed (GoodTarget depth) mark_target (target depth)
unfolding target called_target
placed_target zero = placed_same (GoodTarget zero) (target_is zero) placed_alone
placed_target (suc depth) = placed_same (GoodTarget (suc depth)) (target_is (suc depth)) (placed_either_made left called_made (λ x ms. refl) placed_atom placed_alone)

abbrev mark_change : Target × Expr → Marking
mark_change x ms = mark_target x.0 (exprs.marks x.1 (plain right ∷ ms))

placed_change : (depth : ℕ) → Placed (GoodChange depth) mark_change (change depth)
unfolding change
placed_change depth = placed_both (placed_target depth) (placed_last (IsExpr depth) (expr depth) (placed_expr depth))

-- ---- what an effect's bracket encloses

placed_added : Placed (Made add_made GoodAtom) body added
unfolding added
placed_added = placed_made add_made body (λ x ms. ap tail_of (text_add marked x.0 x.1 ms)) placed_atom

placed_from_decrease : (depth : ℕ) → Placed (FromDecrease depth) body (from_decrease depth)
unfolding from_decrease decreased
placed_from_decrease depth = placed_either_made (named (codes "decrease")) decrease_made (λ x ms. ap tail_of (text_decrease marked x.0.0 x.0.1 x.0.2 x.1 ms)) (placed_change depth) placed_added

placed_from_increase : (depth : ℕ) → Placed (FromIncrease depth) body (from_increase depth)
unfolding from_increase increased
placed_from_increase depth =
    placed_either_made (named (codes "increase")) increase_made (λ x ms. ap tail_of (text_increase marked x.0.0 x.0.1 x.0.2 x.1 ms)) (placed_change depth) (placed_from_decrease depth)

placed_deleted : Placed IsDeleted (λ (v : Effect) (ms : List Mark). plain left ∷ inner v ms) deleted
unfolding deleted
placed_deleted =
    placed_after (placed_expect left) (placed_made delete_made inner (λ x ms. ap third_tail (text_delete marked x.0 x.1 ms)) (placed_before placed_atom (placed_expect right)))

not_begun : (v w : Effect) → w ≡ v → (ms rest : List Mark) → marks w ms ≡ plain left ∷ plain (named (codes "not")) ∷ plain left ∷ rest → body v ms ≡ plain (named (codes "not")) ∷ plain left ∷ inner v ms
not_begun v w is ms rest so =
    subst (λ (x : Effect). body x ms ≡ plain (named (codes "not")) ∷ plain left ∷ inner x ms) is
    (ap tail_of so ∙ sym (ap (λ (ts : List Mark). plain (named (codes "not")) ∷ plain left ∷ third_tail ts) so))

placed_from_not : (depth : ℕ) → Placed (FromNot depth) body (from_not depth)
unfolding from_not
placed_from_not zero = placed_from_increase zero
placed_from_not (suc depth) =
    placed_either (named (codes "not")) placed_deleted (placed_from_increase (suc depth)) (λ v ms h. not_begun v (delete_made h.0) h.1 ms _ (text_delete marked h.0.0 h.0.1 ms))

abbrev mark_parts : List Effect → Marking
mark_parts parts ms = each marks parts (plain right ∷ ms)

module _ (depth : ℕ) (P : Effect → Type 0) (some : Reader (List Effect)) (keeps : Placed (All P) mark_parts some) where
  placed_from_and : Placed (FromAnd depth P) body (from_and depth some)
  unfolding from_and all_of
  placed_from_and = placed_either_made (named (codes "and")) and_made (λ parts ms. ap tail_of (text_and marked parts ms)) keeps (placed_from_not depth)

  placed_in_bracket : Placed (λ (v : Effect). IsEffectOf depth P (out-Effect v)) body (in_bracket depth some)
  unfolding in_bracket
  placed_in_bracket =
      placed_same (λ v. IsEffectOf depth P (out-Effect v)) (enclosed_is depth P)
      (placed_either_made right nothing_made (λ u ms. ap tail_of (text_nothing marked ms)) (placed_pure tt) placed_from_and)

  placed_opened : Placed (λ (v : Effect). IsEffectOf depth P (out-Effect v)) marks (after (expect left) (in_bracket depth some))
  placed_opened = placed_again marks (λ v ms h. opens marked v ms) (placed_after (placed_expect left) placed_in_bracket)

placed_no_parts : Placed (All (IsEffect 0)) mark_parts no_parts
unfolding no_parts
placed_no_parts = placed_same (All (IsEffect 0)) none_is (placed_made no_made mark_parts (λ u ms. refl) (placed_expect right))

pub placed_effect : (depth : ℕ) → Placed (IsEffect (suc depth)) marks (effect depth)
unfolding effect
placed_effect zero = placed_opened zero (IsEffect 0) no_parts placed_no_parts
placed_effect (suc depth) = placed_opened (suc depth) (IsEffect (suc depth)) (row (effect depth)) (placed_row (placed_effect depth))
