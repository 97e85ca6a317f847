-- Effects are read as they are spelled.
use Rattle.std.proofs.Common.{◌≡◌, ℕ, zero, suc, Bool, false, List, [], ◌∷◌, map, None, refl, sym, ap, subst, ◌∙◌, codes}
use Rattle.std.specs.List.{All}
use Rattle.std.proofs.lemmas.List.Elements.{All-nil, All-head}
use Rattle.np_lex.specs.declared.token.Place.{Place}
use Rattle.np_lex.specs.Tokens.{Lexeme, left, right, named}
use Rattle.np_read.specs.Marks.{each}
use Rattle.np_read.specs.Printers.{Printed}
use Rattle.np_read.specs.Same.{same_lexeme}
use Rattle.np_read.specs.ItemReaders.{Reader, expect, after, row}
use Rattle.np_read.proofs.Good.{Good}
use Rattle.np_read.proofs.GoodParts.{good_row}
use Rattle.np_read.proofs.EachRows.{reads_again, reads_each_row}
use Rattle.np_read.proofs.PlacedParts.{reads_either_made, made_refuses, after_refuses, expect_avoids, either_avoids}
use Rattle.np_read.proofs.Spelled.{Reads, Avoids, Made, SamePair, reads_pure, reads_expect, reads_either, reads_same, reads_both, reads_made, reads_after, reads_before}
use Rattle.np_words.specs.declared.word.Word.{Word}
use Rattle.np_words.specs.declared.word.Ident.{Ident}
use Rattle.np_words.specs.declared.expr.Expr.{Expr}
use Rattle.np_conditions.specs.declared.effect.Effect.{Effect, out-Effect}
use Rattle.np_conditions.specs.declared.effect.Effect.TheVariants as e
use Rattle.np_words.specs.Bare.{bare_word, bare_ident}
use Rattle.np_conditions.specs.ConditionForm.{atom}
use Rattle.np_conditions.specs.EffectForm.{Target, bare_target, called_target, target, change, added, decreased, from_decrease, increased, from_increase, deleted, from_not, all_of, from_and, in_bracket, no_parts, effect}
use Rattle.np_conditions.specs.EffectText.{IsEffectOf, IsEffect, bare_effect}
use Rattle.np_conditions.specs.EffectText as printed
use Rattle.np_words.specs.ExprForm.{expr}
use Rattle.np_words.specs.ExprText.{IsExpr, bare_expr}
use Rattle.np_words.specs.ReadingForm.{name, name_of}
use Rattle.np_words.specs.Text.{spelled}
use Rattle.np_words.specs.Written.{is_small_name, is_free_name}
use Rattle.np_conditions.proofs.ConditionKinds.{GoodAtom}
use Rattle.np_conditions.proofs.ConditionReads.{SameAtom, reads_atom, atom_refuses, not_reserved, and_reserved}
use Rattle.np_conditions.proofs.EffectKinds.{alone_made, called_made, GoodTarget, IsAlone, target_is, is_target, nothing_made, and_made, add_made, delete_made, increase_made, decrease_made, GoodChange, IsDeleted, FromDecrease, FromIncrease, FromNot, FromAnd, enclosed_is, is_enclosed}
use Rattle.np_conditions.proofs.EffectStarts.{starting_bare_target, starting_added, starting_from_decrease, starting_from_increase, starting_from_not, starting_from_and, starting_effect, good_no_parts}
use Rattle.np_conditions.proofs.EffectTexts.{text_nothing, text_and, text_add, text_delete, text_increase, text_decrease, opens, bare_and, bare_add, bare_delete, bare_increase, bare_decrease}
use Rattle.np_words.proofs.ExprReads.{SameExpr, SameIdents, reads_last, expr_ends, reads_expr}
use Rattle.np_words.proofs.ExprReads as exprs
use Rattle.np_words.proofs.ExprStarts.{starting_expr}
use Rattle.np_words.proofs.ExprTexts.{tail_of}
use Rattle.np_words.proofs.ReadingWords.{SameWord, reads_name, name_avoids}

-- the same but for places
abbrev pub SameEffect : Effect → Effect → Type 0
SameEffect a b = bare_effect a ≡ bare_effect b

abbrev pub print : Effect → Printed
print = printed.effect spelled

-- what follows the first bracket, and what follows the bracket after `not`
abbrev body : Effect → Printed
body v ls = tail_of (print v ls)

abbrev third_tail : List Lexeme → List Lexeme
third_tail ls = tail_of (tail_of (tail_of ls))

abbrev inner : Effect → Printed
inner v ls = third_tail (print v ls)

-- no name is such a lexeme
abbrev NoName : Lexeme → Type 0
NoName lexeme = (place : Place) → name_of place lexeme ≡ None

increase_reserved : NoName (named (codes "increase"))
unfolding is_free_name is_small_name
increase_reserved place = refl

decrease_reserved : NoName (named (codes "decrease"))
unfolding is_free_name is_small_name
decrease_reserved place = refl

-- ---- targets

abbrev print_target : Target → Printed
print_target x ls = printed.target_text spelled x.0 x.1 x.2 ls

abbrev SameTarget : Target → Target → Type 0
SameTarget x y = SameWord x.0 y.0 × SameIdents x.1 y.1 × (x.2 ≡ y.2)

reads_alone : Reads IsAlone print_target SameTarget bare_target
unfolding bare_target
reads_alone = reads_made alone_made print_target SameTarget (λ w ls. refl) (λ a b h. (h, refl, refl)) reads_name

alone_avoids : (lexeme : Lexeme) → NoName lexeme → Avoids lexeme bare_target
unfolding bare_target
alone_avoids lexeme none item items is = made_refuses alone_made name (item ∷ items) (name_avoids lexeme none item items is)

reads_target : (depth : ℕ) → Reads (GoodTarget depth) print_target SameTarget (target depth)
unfolding target called_target
reads_target zero = reads_same (GoodTarget zero) (target_is zero) (is_target zero) reads_alone
reads_target (suc depth) =
    reads_same (GoodTarget (suc depth)) (target_is (suc depth)) (is_target (suc depth))
    (reads_either_made left called_made (λ x ls. refl) (λ x y h. (h.0, h.1, refl)) reads_atom reads_alone (starting_bare_target 0).tries.nothing (alone_avoids left (λ place. refl)))

abbrev print_change : Target × Expr → Printed
print_change x ls = print_target x.0 (exprs.print x.1 (right ∷ ls))

abbrev SameChange : Target × Expr → Target × Expr → Type 0
SameChange = SamePair SameTarget SameExpr

reads_change : (depth : ℕ) → Reads (GoodChange depth) print_change SameChange (change depth)
unfolding change
reads_change depth =
    reads_both (reads_target depth) (reads_last (IsExpr depth) (expr depth) (starting_expr depth) (expr_ends depth) (reads_expr depth))

-- ---- the same but for places

same_add : (x y : Word × List Ident) → SameAtom x y → SameEffect (add_made x) (add_made y)
same_add x y h =
    bare_add x.0 x.1 ∙ ap (λ (w : Word). e.Add w (map bare_ident x.1)) h.0 ∙ ap (λ (idents : List Ident). e.Add (bare_word y.0) idents) h.1 ∙ sym (bare_add y.0 y.1)

same_delete : (x y : Word × List Ident) → SameAtom x y → SameEffect (delete_made x) (delete_made y)
same_delete x y h =
    bare_delete x.0 x.1 ∙ ap (λ (w : Word). e.Delete w (map bare_ident x.1)) h.0 ∙ ap (λ (idents : List Ident). e.Delete (bare_word y.0) idents) h.1 ∙ sym (bare_delete y.0 y.1)

same_increase : (x y : Target × Expr) → SameChange x y → SameEffect (increase_made x) (increase_made y)
same_increase x y h =
    bare_increase x.0.0 x.0.1 x.0.2 x.1 ∙ ap (λ (w : Word). e.Increase w (map bare_ident x.0.1) x.0.2 (bare_expr x.1)) h.0.0
    ∙ ap (λ (idents : List Ident). e.Increase (bare_word y.0.0) idents x.0.2 (bare_expr x.1)) h.0.1 ∙ ap (λ (alone : Bool). e.Increase (bare_word y.0.0) (map bare_ident y.0.1) alone (bare_expr x.1)) h.0.2
    ∙ ap (λ (v : Expr). e.Increase (bare_word y.0.0) (map bare_ident y.0.1) y.0.2 v) h.1 ∙ sym (bare_increase y.0.0 y.0.1 y.0.2 y.1)

same_decrease : (x y : Target × Expr) → SameChange x y → SameEffect (decrease_made x) (decrease_made y)
same_decrease x y h =
    bare_decrease x.0.0 x.0.1 x.0.2 x.1 ∙ ap (λ (w : Word). e.Decrease w (map bare_ident x.0.1) x.0.2 (bare_expr x.1)) h.0.0
    ∙ ap (λ (idents : List Ident). e.Decrease (bare_word y.0.0) idents x.0.2 (bare_expr x.1)) h.0.1 ∙ ap (λ (alone : Bool). e.Decrease (bare_word y.0.0) (map bare_ident y.0.1) alone (bare_expr x.1)) h.0.2
    ∙ ap (λ (v : Expr). e.Decrease (bare_word y.0.0) (map bare_ident y.0.1) y.0.2 v) h.1 ∙ sym (bare_decrease y.0.0 y.0.1 y.0.2 y.1)

-- ---- what an effect's bracket encloses

reads_added : Reads (Made add_made GoodAtom) body SameEffect added
unfolding added
reads_added = reads_made add_made body SameEffect (λ x ls. ap tail_of (text_add spelled x.0 x.1 ls)) same_add reads_atom

added_avoids : (lexeme : Lexeme) → NoName lexeme → Avoids lexeme added
unfolding added
added_avoids lexeme none item items is = made_refuses add_made atom (item ∷ items) (atom_refuses (item ∷ items) (name_avoids lexeme none item items is))

reads_from_decrease : (depth : ℕ) → Reads (FromDecrease depth) body SameEffect (from_decrease depth)
unfolding from_decrease decreased
reads_from_decrease depth =
    reads_either_made (named (codes "decrease")) decrease_made (λ x ls. ap tail_of (text_decrease spelled x.0.0 x.0.1 x.0.2 x.1 ls)) same_decrease (reads_change depth) reads_added
    (starting_added 0).tries.nothing (added_avoids (named (codes "decrease")) decrease_reserved)

decrease_avoids : (depth : ℕ) (lexeme : Lexeme) → same_lexeme lexeme (named (codes "decrease")) ≡ false → NoName lexeme → Avoids lexeme (from_decrease depth)
unfolding from_decrease
decrease_avoids depth lexeme differ none = either_avoids lexeme (named (codes "decrease")) (decreased depth) added differ (added_avoids lexeme none)

reads_from_increase : (depth : ℕ) → Reads (FromIncrease depth) body SameEffect (from_increase depth)
unfolding from_increase increased
reads_from_increase depth =
    reads_either_made (named (codes "increase")) increase_made (λ x ls. ap tail_of (text_increase spelled x.0.0 x.0.1 x.0.2 x.1 ls)) same_increase (reads_change depth) (reads_from_decrease depth)
    (starting_from_decrease depth 0).tries.nothing (decrease_avoids depth (named (codes "increase")) refl increase_reserved)

increase_avoids : (depth : ℕ) (lexeme : Lexeme) → same_lexeme lexeme (named (codes "increase")) ≡ false → same_lexeme lexeme (named (codes "decrease")) ≡ false → NoName lexeme → Avoids lexeme (from_increase depth)
unfolding from_increase
increase_avoids depth lexeme differ other none = either_avoids lexeme (named (codes "increase")) (increased depth) (from_decrease depth) differ (decrease_avoids depth lexeme other none)

reads_deleted : Reads IsDeleted (λ (v : Effect) (ls : List Lexeme). left ∷ inner v ls) SameEffect deleted
unfolding deleted
reads_deleted =
    reads_after (reads_expect left)
    (reads_made delete_made inner SameEffect (λ x ls. ap third_tail (text_delete spelled x.0 x.1 ls)) same_delete (reads_before reads_atom (reads_expect right)))

-- what is deleted begins so
not_begun : (v w : Effect) → w ≡ v → (ls rest : List Lexeme) → print w ls ≡ left ∷ named (codes "not") ∷ left ∷ rest → body v ls ≡ named (codes "not") ∷ left ∷ inner v ls
not_begun v w is ls rest so =
    subst (λ (x : Effect). body x ls ≡ named (codes "not") ∷ left ∷ inner x ls) is
    (ap tail_of so ∙ sym (ap (λ (ts : List Lexeme). named (codes "not") ∷ left ∷ third_tail ts) so))

deleted_begins : (v : Effect) (ls : List Lexeme) → IsDeleted v → body v ls ≡ named (codes "not") ∷ left ∷ inner v ls
deleted_begins v ls h = not_begun v (delete_made h.0) h.1 ls _ (text_delete spelled h.0.0 h.0.1 ls)

reads_from_not : (depth : ℕ) → Reads (FromNot depth) body SameEffect (from_not depth)
unfolding from_not
reads_from_not zero = reads_from_increase zero
reads_from_not (suc depth) =
    reads_either (named (codes "not")) reads_deleted (reads_from_increase (suc depth)) (λ v ls h. deleted_begins v ls h)
    (starting_from_increase (suc depth) 0).tries.nothing (increase_avoids (suc depth) (named (codes "not")) refl refl not_reserved)

from_not_avoids : (depth : ℕ) (lexeme : Lexeme) → same_lexeme lexeme (named (codes "not")) ≡ false → same_lexeme lexeme (named (codes "increase")) ≡ false → same_lexeme lexeme (named (codes "decrease")) ≡ false → NoName lexeme → Avoids lexeme (from_not depth)
unfolding from_not
from_not_avoids zero lexeme no_not differ other none = increase_avoids zero lexeme differ other none
from_not_avoids (suc depth) lexeme no_not differ other none = either_avoids lexeme (named (codes "not")) deleted (from_increase (suc depth)) no_not (increase_avoids (suc depth) lexeme differ other none)

abbrev print_parts : List Effect → Printed
print_parts parts ls = each print parts (right ∷ ls)

abbrev SameParts : List Effect → List Effect → Type 0
SameParts xs ys = map bare_effect xs ≡ map bare_effect ys

module _ (depth : ℕ) (P : Effect → Type 0) (some : Reader (List Effect)) (reads : Reads (All P) print_parts SameParts some) where
  reads_from_and : Reads (FromAnd depth P) body SameEffect (from_and depth some)
  unfolding from_and all_of
  reads_from_and =
      reads_either_made (named (codes "and")) and_made (λ parts ls. ap tail_of (text_and spelled parts ls)) (λ xs ys h. bare_and xs ∙ ap and_made h ∙ sym (bare_and ys)) reads (reads_from_not depth)
      (starting_from_not depth 0).tries.nothing (from_not_avoids depth (named (codes "and")) refl refl refl and_reserved)

  and_avoids : Avoids right (from_and depth some)
  unfolding from_and
  and_avoids = either_avoids right (named (codes "and")) (all_of depth some) (from_not depth) refl (from_not_avoids depth right refl refl refl (λ place. refl))

  module _ (good : (k : ℕ) → Good k some) where
    reads_in_bracket : Reads (λ (v : Effect). IsEffectOf depth P (out-Effect v)) body SameEffect (in_bracket depth some)
    unfolding in_bracket
    reads_in_bracket =
        reads_same (λ v. IsEffectOf depth P (out-Effect v)) (enclosed_is depth P) (is_enclosed depth P)
        (reads_either_made right nothing_made (λ u ls. ap tail_of (text_nothing spelled ls)) (λ u v h. refl) (reads_pure tt) reads_from_and
        (starting_from_and depth some good 0).tries.nothing and_avoids)

    -- what an effect is in its bracket
    reads_opened : Reads (λ (v : Effect). IsEffectOf depth P (out-Effect v)) print SameEffect (after (expect left) (in_bracket depth some))
    reads_opened = reads_again print (λ v ls h. opens spelled v ls) (reads_after (reads_expect left) reads_in_bracket)

-- ---- effects

pub effect_ends : (depth : ℕ) → Avoids right (effect depth)
unfolding effect
effect_ends zero item items is = after_refuses (expect left) _ (item ∷ items) (expect_avoids right left refl item items is)
effect_ends (suc depth) item items is = after_refuses (expect left) _ (item ∷ items) (expect_avoids right left refl item items is)

abbrev pub no_made : Unit {0} → List Effect
no_made u = []

-- where no bracket may be opened, no part is
pub none_is : (xs : List Effect) → Made no_made (λ u. Unit {0}) xs → All (IsEffect 0) xs
none_is xs h = subst (λ (ys : List Effect). All (IsEffect 0) ys) h.1 (All-nil (IsEffect 0))

is_none : (xs : List Effect) → All (IsEffect 0) xs → Made no_made (λ u. Unit {0}) xs
is_none [] h = (tt, refl, tt)
is_none (x ∷ xs) h = absurd (All-head (IsEffect 0) x xs h)

reads_no_parts : Reads (All (IsEffect 0)) print_parts SameParts no_parts
unfolding no_parts
reads_no_parts = reads_same (All (IsEffect 0)) none_is is_none (reads_made no_made print_parts SameParts (λ u ls. refl) (λ u v h. refl) (reads_expect right))

-- brackets nest at most so deep in an effect, its own counted
pub reads_effect : (depth : ℕ) → Reads (IsEffect (suc depth)) print SameEffect (effect depth)
unfolding effect
reads_effect zero = reads_opened zero (IsEffect 0) no_parts reads_no_parts good_no_parts
reads_effect (suc depth) =
    reads_opened (suc depth) (IsEffect (suc depth)) (row (effect depth))
    (reads_each_row bare_effect (starting_effect depth) (reads_effect depth) (effect_ends depth)) (good_row (effect depth) (starting_effect depth))
