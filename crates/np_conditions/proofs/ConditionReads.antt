-- Conditions are read as they are spelled.
use Rattle.std.proofs.Common.{◌≡◌, ◌⊎◌, inl, inr, ℕ, zero, suc, Bool, true, false, cond, List, [], ◌∷◌, map, Option, None, Some, refl, sym, ap, subst, ◌∙◌, codes}
use Rattle.std.specs.List.{All}
use Rattle.std.specs.Str.{bytes_eq}
use Rattle.std.proofs.lemmas.List.Elements.{All-nil, All-head}
use Rattle.std.proofs.lemmas.Slice.Eq.{bytes_eq-Decides}
use Rattle.np_lex.specs.declared.token.Kind.{Kind}
use Rattle.np_lex.specs.declared.token.Kind.TheVariants as kind
use Rattle.np_lex.specs.declared.token.Place.{Place}
use Rattle.np_lex.specs.Tokens.{Lexeme, word, Item, left, right, named}
use Rattle.np_read.specs.Marks.{each}
use Rattle.np_read.specs.Printers.{Printed}
use Rattle.np_read.specs.Same.{same_kind, same_lexeme}
use Rattle.np_read.specs.ItemReaders.{Reader, says, expect, after, before, row}
use Rattle.np_read.proofs.Same.{same_kind_true}
use Rattle.np_read.proofs.Good.{Good}
use Rattle.np_read.proofs.GoodParts.{good_row}
use Rattle.np_read.proofs.EachRows.{reads_again, reads_each_row}
use Rattle.np_read.proofs.PlacedParts.{Refuses, AvoidsSaid, said_by, SaysSpelled, SaysBack, says_spelled, says_back, MadeOf, reads_either_made, reads_either_by, made_refuses, both_refuses, after_refuses, before_refuses, expect_avoids, either_avoids, either_by_refuses, silent}
use Rattle.np_read.proofs.Spelled.{Reads, Avoids, Made, SamePair, reads_pure, reads_expect, reads_either, reads_same, reads_both, reads_made, reads_after, reads_before}
use Rattle.np_words.specs.declared.word.Word.{Word}
use Rattle.np_words.specs.declared.word.Ident.{Ident}
use Rattle.np_words.specs.declared.expr.Expr.{Expr}
use Rattle.np_conditions.specs.declared.condition.Op.{Op}
use Rattle.np_conditions.specs.declared.condition.Op.TheVariants.{Less, Greater, AtMost, AtLeast}
use Rattle.np_conditions.specs.declared.condition.Side.{Side}
use Rattle.np_conditions.specs.declared.condition.Side.TheVariants as side
use Rattle.np_conditions.specs.declared.condition.Condition.{Condition, out-Condition}
use Rattle.np_conditions.specs.declared.condition.Condition.TheVariants as c
use Rattle.np_words.specs.Bare.{nowhere, bare_word, bare_ident}
use Rattle.np_conditions.specs.ConditionForm.{op_in, op_of, operands, atom, expr_side, one_side, last_side, not_same, not_compared, not_atom, not_from_compare, in_not, negated, compared, some_atom, from_compare, equal, from_equal, from_not, all_of, from_and, in_bracket, no_parts, condition}
use Rattle.np_conditions.specs.ConditionText.{op_text, IsSide, IsConditionOf, IsCondition, bare_side, bare_condition}
use Rattle.np_conditions.specs.ConditionText as printed
use Rattle.np_words.specs.ExprForm.{expr}
use Rattle.np_words.specs.ExprText.{IsExpr, bare_expr}
use Rattle.np_words.specs.ExprText as expressions
use Rattle.np_words.specs.ReadingForm.{name, variable, identifier, name_of, variable_of}
use Rattle.np_words.specs.Text.{spelled, operator_lexeme, variable_lexeme}
use Rattle.np_words.specs.Text as text
use Rattle.np_words.specs.Written.{IsWord, is_small_name, is_free_name}
use Rattle.np_conditions.proofs.ConditionKinds.{nothing_made, and_made, atom_made, not_atom_made, compare_made, not_compare_made, equal_made, not_same_made, IsAnyOp, GoodAtom, GoodOperands, NotFromCompare, Negated, FromCompare, FromEqual, FromNot, FromAnd, enclosed_is, is_enclosed}
use Rattle.np_conditions.proofs.ConditionStarts.{starting_some_atom, starting_not_atom, starting_not_from_compare, starting_from_compare, starting_from_equal, starting_from_not, starting_from_and, starting_condition, good_no_parts}
use Rattle.np_conditions.proofs.ConditionTexts.{text_nothing, text_and, text_atom, text_not_atom, text_compare, text_not_compare, text_equal, text_not_same, opens, bare_and, bare_atom, bare_not_atom, bare_compare, bare_not_compare, bare_equal, bare_not_same}
use Rattle.np_words.proofs.ExprBegins.{begins_expr}
use Rattle.np_words.proofs.ExprKinds.{IsUnit}
use Rattle.np_words.proofs.ExprReads.{SameExpr, print_idents, SameIdents, reads_idents, reads_last, expr_avoids, expr_ends, reads_expr}
use Rattle.np_words.proofs.ExprReads as exprs
use Rattle.np_words.proofs.ExprStarts.{starting_expr}
use Rattle.np_words.proofs.ExprTexts.{tail_of}
use Rattle.np_words.proofs.ReadingWords.{SameWord, SameIdent, reads_name, reads_variable, reads_identifier, name_avoids}
use Rattle.np_conditions.proofs.Sides.{MadeAt, reads_kept, kept_refuses}

-- the same but for places
abbrev pub SameCondition : Condition → Condition → Type 0
SameCondition a b = bare_condition a ≡ bare_condition b

abbrev pub SameSide : Side → Side → Type 0
SameSide a b = bare_side a ≡ bare_side b

abbrev pub print : Condition → Printed
print = printed.condition spelled

-- what follows the first bracket, and what follows the bracket after `not`
abbrev body : Condition → Printed
body v ls = tail_of (print v ls)

abbrev inner : Condition → Printed
inner v ls = tail_of (tail_of (tail_of (print v ls)))

abbrev third_tail : List Lexeme → List Lexeme
third_tail ls = tail_of (tail_of (tail_of ls))

-- no name is such a lexeme
abbrev NoName : Lexeme → Type 0
NoName lexeme = (place : Place) → name_of place lexeme ≡ None

-- nor a comparison
abbrev NoOp : Lexeme → Type 0
NoOp lexeme = (place : Place) → op_of place lexeme ≡ None

-- ---- comparisons

abbrev pub op_lexeme : Op → Lexeme
op_lexeme op = operator_lexeme (op_text op)

op_by : (text : List ℕ) (op found : Op) (same : Bool) → bytes_eq text (op_text op) ≡ same → (other : Option Op) → (other ≡ Some found → text ≡ op_text found) → cond same (Some op) other ≡ Some found → text ≡ op_text found
op_by text op found true is other go e =
    let same : op ≡ found = cc in (bytes_eq-Decides text (op_text op)).0 is ∙ ap op_text same
op_by text op found false is other go e = go e

op_in_is : (text : List ℕ) (found : Op) → op_in text ≡ Some found → text ≡ op_text found
op_in_is text found e =
    op_by text Less found (bytes_eq text (codes "<")) refl _
    (op_by text Greater found (bytes_eq text (codes ">")) refl _
    (op_by text AtMost found (bytes_eq text (codes "<=")) refl _
    (op_by text AtLeast found (bytes_eq text (codes ">=")) refl None (λ none. absurd cc)))) e

op_spelled_by : (place : Place) (lexeme : Lexeme) (op : Op) (same : Bool) → same_kind lexeme.kind kind.Op ≡ same → cond same (op_in lexeme.text) None ≡ Some op → lexeme ≡ op_lexeme op
op_spelled_by place lexeme op true is e =
    ap (λ (k : Kind). record { kind = k; text = lexeme.text }) (same_kind_true lexeme.kind kind.Op is) ∙ ap (λ (t : List ℕ). record { kind = kind.Op; text = t }) (op_in_is lexeme.text op e)
op_spelled_by place lexeme op false is e = absurd cc

pub op_spelled : (place : Place) (lexeme : Lexeme) (op : Op) → op_of place lexeme ≡ Some op → Unit {0} × (lexeme ≡ op_lexeme op)
op_spelled place lexeme op e = (tt, op_spelled_by place lexeme op (same_kind lexeme.kind kind.Op) refl e)

op_says : (place : Place) (op : Op) → op_of place (op_lexeme op) ≡ Some op
op_says place Less = refl
op_says place Greater = refl
op_says place AtMost = refl
op_says place AtLeast = refl

op_back : (place : Place) (op : Op) → Unit {0} → (found : Op) × (op_of place (op_lexeme op) ≡ Some found) × (found ≡ op)
op_back place op h = (op, op_says place op, refl)

op_no_name : (op : Op) (place : Place) → name_of place (op_lexeme op) ≡ None
op_no_name op place = refl

-- ---- parts

abbrev print_operands : Expr × Expr → Printed
print_operands x ls = exprs.print x.0 (exprs.print x.1 (right ∷ ls))

abbrev SameOperands : Expr × Expr → Expr × Expr → Type 0
SameOperands = SamePair SameExpr SameExpr

reads_operands : (depth : ℕ) → Reads (GoodOperands depth) print_operands SameOperands (operands depth)
unfolding operands
reads_operands depth =
    reads_both (reads_expr depth) (reads_last (IsExpr depth) (expr depth) (starting_expr depth) (expr_ends depth) (reads_expr depth))

abbrev pub print_atom : Word × List Ident → Printed
print_atom x ls = text.name spelled x.0 (print_idents x.1 ls)

abbrev pub SameAtom : Word × List Ident → Word × List Ident → Type 0
SameAtom = SamePair SameWord SameIdents

pub reads_atom : Reads GoodAtom print_atom SameAtom atom
unfolding atom
reads_atom = reads_both reads_name reads_idents

pub atom_refuses : (items : List Item) → Refuses name items → Refuses atom items
unfolding atom
atom_refuses items refuses = both_refuses name (row identifier) items refuses

-- ---- sides

abbrev print_side : Side → Printed
print_side = printed.side_text spelled

abbrev pub expr_made : Expr → Place → Side
expr_made v place = side.Expr v place

abbrev pub variable_made : Word → Unit {0} → Side
variable_made w u = side.Variable w

expr_text_at : (v : Expr) (place : Place) (ls : List Lexeme) → expressions.expr_at spelled v (place ∷ []) ls ≡ exprs.print v ls
expr_text_at v place ls = let begins = begins_expr spelled v ls in begins.is (place ∷ []) ∙ sym (begins.is [])

same_expr_side : (a b : Expr) (at also : Place) → SameExpr a b → SameSide (expr_made a at) (expr_made b also)
same_expr_side a b at also h = ap (λ (v : Expr). side.Expr v nowhere) h

side_nothing : (depth : ℕ) → Refuses (expr_side depth) []
unfolding expr_side
side_nothing depth = kept_refuses expr_made (expr depth) [] (starting_expr depth 0).tries.nothing

expr_side_refuses : (depth : ℕ) (item : Item) (items : List Item) → Refuses (expr depth) (item ∷ items) → Refuses (expr_side depth) (item ∷ items)
unfolding expr_side
expr_side_refuses depth item items refuses = kept_refuses expr_made (expr depth) (item ∷ items) refuses

variable_spelled : SaysSpelled variable_of IsWord (λ w. variable_lexeme w.text) SameWord
unfolding variable
variable_spelled = says_spelled variable_of (λ w. variable_lexeme w.text) SameWord reads_variable

variable_back : SaysBack variable_of IsWord (λ w. variable_lexeme w.text) SameWord
unfolding variable
variable_back = says_back variable_of (λ w. variable_lexeme w.text) SameWord reads_variable

no_variable : (depth : ℕ) → AvoidsSaid variable_of IsWord variable_made (expr_side depth)
no_variable depth item items w h =
    let said = said_by (variable_of item.place) item.piece w h in
    let is : said.0 ≡ variable_lexeme w.text = (variable_spelled item.place said.0 w said.2).1 in
    expr_side_refuses depth item items
    (expr_avoids (variable_lexeme w.text) refl (λ place. refl) (λ place. refl) depth item items (said.1 ∙ ap (λ (l : Lexeme). word l) is))

abbrev EitherSide : ℕ → Side → Type 0
EitherSide depth s = MadeOf variable_made IsWord IsUnit s ⊎ MadeAt expr_made (expr depth) (IsExpr depth) s

pub side_is : (depth : ℕ) (s : Side) → EitherSide depth s → IsSide depth s
side_is depth s (inl h) = subst (IsSide depth) h.2 h.3
side_is depth s (inr h) = subst (IsSide depth) h.2 h.3

is_side : (depth : ℕ) (s : Side) → IsSide depth s → EitherSide depth s
is_side depth (side.Expr v place) h = inr (v, place, refl, h)
is_side depth (side.Variable w) h = inl (w, tt, refl, h, refl)

reads_expr_side : (depth : ℕ) → Reads (MadeAt expr_made (expr depth) (IsExpr depth)) print_side SameSide (expr_side depth)
unfolding expr_side
reads_expr_side depth = reads_kept expr_made (expr depth) print_side SameSide expr_text_at same_expr_side (reads_expr depth)

pub reads_side : (depth : ℕ) → Reads (IsSide depth) print_side SameSide (one_side depth)
unfolding one_side
reads_side depth =
    reads_same (IsSide depth) (side_is depth) (is_side depth)
    (reads_either_by variable_of IsWord variable_made (λ w. variable_lexeme w.text) SameWord variable_spelled variable_back (λ w u ls. refl)
    (λ a b u v same _. ap (λ (w : Word). side.Variable w) same) (reads_pure tt) (reads_expr_side depth) (side_nothing depth) (no_variable depth))

reads_last_side : (depth : ℕ) → Reads (IsSide depth) (λ (s : Side) (ls : List Lexeme). print_side s (right ∷ ls)) SameSide (last_side depth)
unfolding last_side
reads_last_side depth = reads_before (reads_side depth) (reads_expect right)

-- ---- the same but for places

same_atom : (x y : Word × List Ident) → SameAtom x y → SameCondition (atom_made x) (atom_made y)
same_atom x y h =
    bare_atom x.0 x.1 ∙ ap (λ (w : Word). c.Atom w (map bare_ident x.1)) h.0 ∙ ap (λ (idents : List Ident). c.Atom (bare_word y.0) idents) h.1 ∙ sym (bare_atom y.0 y.1)

same_not_atom : (x y : Word × List Ident) → SameAtom x y → SameCondition (not_atom_made x) (not_atom_made y)
same_not_atom x y h =
    bare_not_atom x.0 x.1 ∙ ap (λ (w : Word). c.NotAtom w (map bare_ident x.1)) h.0 ∙ ap (λ (idents : List Ident). c.NotAtom (bare_word y.0) idents) h.1 ∙ sym (bare_not_atom y.0 y.1)

same_compare : (op also : Op) (x y : Expr × Expr) → op ≡ also → SameOperands x y → SameCondition (compare_made op x) (compare_made also y)
same_compare op also x y is h =
    bare_compare op x.0 x.1 ∙ ap (λ (o : Op). c.Compare o (bare_expr x.0) (bare_expr x.1)) is ∙ ap (λ (v : Expr). c.Compare also v (bare_expr x.1)) h.0
    ∙ ap (λ (v : Expr). c.Compare also (bare_expr y.0) v) h.1 ∙ sym (bare_compare also y.0 y.1)

same_not_compare : (op also : Op) (x y : Expr × Expr) → op ≡ also → SameOperands x y → SameCondition (not_compare_made op x) (not_compare_made also y)
same_not_compare op also x y is h =
    bare_not_compare op x.0 x.1 ∙ ap (λ (o : Op). c.NotCompare o (bare_expr x.0) (bare_expr x.1)) is ∙ ap (λ (v : Expr). c.NotCompare also v (bare_expr x.1)) h.0
    ∙ ap (λ (v : Expr). c.NotCompare also (bare_expr y.0) v) h.1 ∙ sym (bare_not_compare also y.0 y.1)

same_equal : (x y : Side × Side) → SamePair SameSide SameSide x y → SameCondition (equal_made x) (equal_made y)
same_equal x y h =
    bare_equal x.0 x.1 ∙ ap (λ (s : Side). c.Equal s (bare_side x.1)) h.0 ∙ ap (λ (s : Side). c.Equal (bare_side y.0) s) h.1 ∙ sym (bare_equal y.0 y.1)

same_not_same : (x y : Ident × Ident) → SamePair SameIdent SameIdent x y → SameCondition (not_same_made x) (not_same_made y)
same_not_same x y h =
    bare_not_same x.0 x.1 ∙ ap (λ (i : Ident). c.NotSame i (bare_ident x.1)) h.0 ∙ ap (λ (i : Ident). c.NotSame (bare_ident y.0) i) h.1 ∙ sym (bare_not_same y.0 y.1)

-- ---- what `not` encloses

reads_not_atom : Reads (Made not_atom_made GoodAtom) inner SameCondition not_atom
unfolding not_atom
reads_not_atom =
    reads_made not_atom_made inner SameCondition (λ x ls. ap third_tail (text_not_atom spelled x.0 x.1 ls)) same_not_atom
    (reads_before reads_atom (reads_expect right))

not_atom_refuses : (items : List Item) → Refuses name items → Refuses not_atom items
unfolding not_atom
not_atom_refuses items refuses = made_refuses not_atom_made (before atom (expect right)) items (before_refuses atom (expect right) items (atom_refuses items refuses))

-- where a comparison is said, no name is
op_first : (item : Item) (items : List Item) (op : Op) → says (op_of item.place) item.piece ≡ Some op → Refuses name (item ∷ items)
op_first item items op h =
    let said = said_by (op_of item.place) item.piece op h in
    name_avoids (op_lexeme op) (op_no_name op) item items (said.1 ∙ ap (λ (l : Lexeme). word l) (op_spelled item.place said.0 op said.2).1)

reads_not_from_compare : (depth : ℕ) → Reads (NotFromCompare depth) inner SameCondition (not_from_compare depth)
unfolding not_from_compare not_compared
reads_not_from_compare depth =
    reads_either_by op_of IsAnyOp not_compare_made op_lexeme ◌≡◌ op_spelled op_back
    (λ op x ls. ap third_tail (text_not_compare spelled op x.0 x.1 ls)) (λ op also x y is h. same_not_compare op also x y is h)
    (reads_before (reads_operands depth) (reads_expect right)) reads_not_atom (starting_not_atom 0).tries.nothing (λ item items op h. not_atom_refuses (item ∷ items) (op_first item items op h))

not_from_compare_avoids : (depth : ℕ) (lexeme : Lexeme) → NoOp lexeme → NoName lexeme → Avoids lexeme (not_from_compare depth)
unfolding not_from_compare
not_from_compare_avoids depth lexeme no_op none item items is =
    either_by_refuses op_of (not_compared depth) not_atom item items (silent op_of item lexeme is (no_op item.place)) (not_atom_refuses (item ∷ items) (name_avoids lexeme none item items is))

reads_in_not : (depth : ℕ) → Reads (Negated depth) inner SameCondition (in_not depth)
unfolding in_not not_same
reads_in_not depth =
    reads_either_made (operator_lexeme (codes "=")) not_same_made (λ x ls. ap third_tail (text_not_same spelled x.0 x.1 ls)) same_not_same
    (reads_before (reads_both reads_identifier (reads_before reads_identifier (reads_expect right))) (reads_expect right)) (reads_not_from_compare depth)
    (starting_not_from_compare depth 0).tries.nothing (not_from_compare_avoids depth (operator_lexeme (codes "=")) (λ place. refl) (λ place. refl))

reads_negated : (depth : ℕ) → Reads (Negated depth) (λ (v : Condition) (ls : List Lexeme). left ∷ inner v ls) SameCondition (negated depth)
unfolding negated
reads_negated depth = reads_after (reads_expect left) (reads_in_not depth)

-- what is negated begins so
not_begun : (v w : Condition) → w ≡ v → (ls rest : List Lexeme) → print w ls ≡ left ∷ named (codes "not") ∷ left ∷ rest → body v ls ≡ named (codes "not") ∷ left ∷ inner v ls
not_begun v w is ls rest so =
    subst (λ (x : Condition). body x ls ≡ named (codes "not") ∷ left ∷ inner x ls) is
    (ap tail_of so ∙ sym (ap (λ (ts : List Lexeme). named (codes "not") ∷ left ∷ tail_of (tail_of (tail_of ts))) so))

negated_begins : (depth : ℕ) (v : Condition) (ls : List Lexeme) → Negated depth v → body v ls ≡ named (codes "not") ∷ left ∷ inner v ls
negated_begins depth v ls (inl h) = not_begun v (not_same_made h.1) h.2 ls _ (text_not_same spelled h.1.0 h.1.1 ls)
negated_begins depth v ls (inr (inl h)) = not_begun v (not_compare_made h.0 h.1) h.2 ls _ (text_not_compare spelled h.0 h.1.0 h.1.1 ls)
negated_begins depth v ls (inr (inr h)) = not_begun v (not_atom_made h.0) h.1 ls _ (text_not_atom spelled h.0.0 h.0.1 ls)

-- ---- what a condition's bracket encloses

reads_some_atom : Reads (Made atom_made GoodAtom) body SameCondition some_atom
unfolding some_atom
reads_some_atom = reads_made atom_made body SameCondition (λ x ls. ap tail_of (text_atom spelled x.0 x.1 ls)) same_atom reads_atom

some_atom_refuses : (items : List Item) → Refuses name items → Refuses some_atom items
unfolding some_atom
some_atom_refuses items refuses = made_refuses atom_made atom items (atom_refuses items refuses)

reads_from_compare : (depth : ℕ) → Reads (FromCompare depth) body SameCondition (from_compare depth)
unfolding from_compare compared
reads_from_compare depth =
    reads_either_by op_of IsAnyOp compare_made op_lexeme ◌≡◌ op_spelled op_back (λ op x ls. ap tail_of (text_compare spelled op x.0 x.1 ls)) (λ op also x y is h. same_compare op also x y is h)
    (reads_operands depth) reads_some_atom (starting_some_atom 0).tries.nothing (λ item items op h. some_atom_refuses (item ∷ items) (op_first item items op h))

from_compare_avoids : (depth : ℕ) (lexeme : Lexeme) → NoOp lexeme → NoName lexeme → Avoids lexeme (from_compare depth)
unfolding from_compare
from_compare_avoids depth lexeme no_op none item items is =
    either_by_refuses op_of (compared depth) some_atom item items (silent op_of item lexeme is (no_op item.place)) (some_atom_refuses (item ∷ items) (name_avoids lexeme none item items is))

reads_from_equal : (depth : ℕ) → Reads (FromEqual depth) body SameCondition (from_equal depth)
unfolding from_equal equal
reads_from_equal depth =
    reads_either_made (operator_lexeme (codes "=")) equal_made (λ x ls. ap tail_of (text_equal spelled x.0 x.1 ls)) same_equal (reads_both (reads_side depth) (reads_last_side depth)) (reads_from_compare depth)
    (starting_from_compare depth 0).tries.nothing (from_compare_avoids depth (operator_lexeme (codes "=")) (λ place. refl) (λ place. refl))

from_equal_avoids : (depth : ℕ) (lexeme : Lexeme) → same_lexeme lexeme (operator_lexeme (codes "=")) ≡ false → NoOp lexeme → NoName lexeme → Avoids lexeme (from_equal depth)
unfolding from_equal
from_equal_avoids depth lexeme differ no_op none = either_avoids lexeme (operator_lexeme (codes "=")) (equal depth) (from_compare depth) differ (from_compare_avoids depth lexeme no_op none)

-- reserved words are no names
pub not_reserved : NoName (named (codes "not"))
unfolding is_free_name is_small_name
not_reserved place = refl

pub and_reserved : NoName (named (codes "and"))
unfolding is_free_name is_small_name
and_reserved place = refl

reads_from_not : (depth : ℕ) → Reads (FromNot depth) body SameCondition (from_not depth)
unfolding from_not
reads_from_not zero = reads_from_equal zero
reads_from_not (suc depth) =
    reads_either (named (codes "not")) (reads_negated depth) (reads_from_equal (suc depth)) (λ v ls h. negated_begins depth v ls h)
    (starting_from_equal (suc depth) 0).tries.nothing (from_equal_avoids (suc depth) (named (codes "not")) refl (λ place. refl) not_reserved)

from_not_avoids : (depth : ℕ) (lexeme : Lexeme) → same_lexeme lexeme (named (codes "not")) ≡ false → same_lexeme lexeme (operator_lexeme (codes "=")) ≡ false → NoOp lexeme → NoName lexeme → Avoids lexeme (from_not depth)
unfolding from_not
from_not_avoids zero lexeme other differ no_op none = from_equal_avoids zero lexeme differ no_op none
from_not_avoids (suc depth) lexeme other differ no_op none = either_avoids lexeme (named (codes "not")) (negated depth) (from_equal (suc depth)) other (from_equal_avoids (suc depth) lexeme differ no_op none)

abbrev print_parts : List Condition → Printed
print_parts parts ls = each print parts (right ∷ ls)

abbrev SameParts : List Condition → List Condition → Type 0
SameParts xs ys = map bare_condition xs ≡ map bare_condition ys

module _ (depth : ℕ) (P : Condition → Type 0) (some : Reader (List Condition)) (reads : Reads (All P) print_parts SameParts some) where
  reads_from_and : Reads (FromAnd depth P) body SameCondition (from_and depth some)
  unfolding from_and all_of
  reads_from_and =
      reads_either_made (named (codes "and")) and_made (λ parts ls. ap tail_of (text_and spelled parts ls)) (λ xs ys h. bare_and xs ∙ ap and_made h ∙ sym (bare_and ys)) reads (reads_from_not depth)
      (starting_from_not depth 0).tries.nothing (from_not_avoids depth (named (codes "and")) refl refl (λ place. refl) and_reserved)

  and_avoids : Avoids right (from_and depth some)
  unfolding from_and
  and_avoids = either_avoids right (named (codes "and")) (all_of depth some) (from_not depth) refl (from_not_avoids depth right refl refl (λ place. refl) (λ place. refl))

  module _ (good : (k : ℕ) → Good k some) where
    reads_in_bracket : Reads (λ (v : Condition). IsConditionOf depth P (out-Condition v)) body SameCondition (in_bracket depth some)
    unfolding in_bracket
    reads_in_bracket =
        reads_same (λ v. IsConditionOf depth P (out-Condition v)) (enclosed_is depth P) (is_enclosed depth P)
        (reads_either_made right nothing_made (λ u ls. ap tail_of (text_nothing spelled ls)) (λ u v h. refl) (reads_pure tt) reads_from_and
        (starting_from_and depth some good 0).tries.nothing and_avoids)

    -- what a condition is in its bracket
    reads_opened : Reads (λ (v : Condition). IsConditionOf depth P (out-Condition v)) print SameCondition (after (expect left) (in_bracket depth some))
    reads_opened = reads_again print (λ v ls h. opens spelled v ls) (reads_after (reads_expect left) reads_in_bracket)

-- ---- conditions

pub condition_ends : (depth : ℕ) → Avoids right (condition depth)
unfolding condition
condition_ends zero item items is = after_refuses (expect left) _ (item ∷ items) (expect_avoids right left refl item items is)
condition_ends (suc depth) item items is = after_refuses (expect left) _ (item ∷ items) (expect_avoids right left refl item items is)

abbrev pub no_made : Unit {0} → List Condition
no_made u = []

-- where no bracket may be opened, no part is
pub none_is : (xs : List Condition) → Made no_made (λ u. Unit {0}) xs → All (IsCondition 0) xs
none_is xs h = subst (λ (ys : List Condition). All (IsCondition 0) ys) h.1 (All-nil (IsCondition 0))

is_none : (xs : List Condition) → All (IsCondition 0) xs → Made no_made (λ u. Unit {0}) xs
is_none [] h = (tt, refl, tt)
is_none (x ∷ xs) h = absurd (All-head (IsCondition 0) x xs h)

reads_no_parts : Reads (All (IsCondition 0)) print_parts SameParts no_parts
unfolding no_parts
reads_no_parts = reads_same (All (IsCondition 0)) none_is is_none (reads_made no_made print_parts SameParts (λ u ls. refl) (λ u v h. refl) (reads_expect right))

-- brackets nest at most so deep in a condition, its own counted
pub reads_condition : (depth : ℕ) → Reads (IsCondition (suc depth)) print SameCondition (condition depth)
unfolding condition
reads_condition zero = reads_opened zero (IsCondition 0) no_parts reads_no_parts good_no_parts
reads_condition (suc depth) =
    reads_opened (suc depth) (IsCondition (suc depth)) (row (condition depth))
    (reads_each_row bare_condition (starting_condition depth) (reads_condition depth) (condition_ends depth)) (good_row (condition depth) (starting_condition depth))
