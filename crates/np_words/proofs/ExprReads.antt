-- Expressions are read as they are spelled.
use Rattle.std.proofs.Common.{◌≡◌, ◌⊎◌, inl, inr, ℕ, zero, suc, false, List, [], ◌∷◌, map, Option, None, Some, refl, sym, ap, subst, ◌∙◌, codes}
use Rattle.std.specs.List.{All}
use Rattle.std.specs.Option.{option_map}
use Rattle.np_lex.specs.declared.token.Place.{Place}
use Rattle.np_lex.specs.Tokens.{Lexeme, Item, left, right, numeral}
use Rattle.np_read.specs.Marks.{each}
use Rattle.np_read.specs.Printers.{Printed}
use Rattle.np_read.specs.Same.{same_lexeme}
use Rattle.np_read.specs.ItemReaders.{Reader, pure, expect, before, both, made, row}
use Rattle.np_read.proofs.Good.{Starting}
use Rattle.np_read.proofs.EachRows.{reads_weaker, reads_each_row, reads_each_some}
use Rattle.np_read.proofs.PlacedParts.{Refuses, AvoidsSaid, said_by, says_spelled, says_back, reads_either_made, reads_either_by, made_refuses, before_refuses, both_refuses, either_avoids, either_by_refuses, silent}
use Rattle.np_read.proofs.Spelled.{Reads, Avoids, Made, SamePair, reads_pure, reads_expect, reads_either, reads_same, reads_both, reads_made, reads_before}
use Rattle.np_words.specs.declared.word.Word.{Word}
use Rattle.np_words.specs.declared.word.Ident.{Ident}
use Rattle.np_words.specs.declared.word.Decimal.{Decimal}
use Rattle.np_words.specs.declared.expr.Expr.{Expr, out-Expr}
use Rattle.np_words.specs.declared.expr.Expr.TheVariants as e
use Rattle.np_words.specs.declared.expr.Expr.TheViews.{roll-out-Expr}
use Rattle.np_words.specs.Bare.{bare_word, bare_ident}
use Rattle.np_words.specs.ExprForm.{minus_of, call, plain, last, maybe_last, difference, quotient, two_parts, sum, product, from_slash, from_star, from_plus, in_bracket, expr}
use Rattle.np_words.specs.ExprText.{IsPlain, IsExpr, bare_expr}
use Rattle.np_words.specs.ExprText as printed
use Rattle.np_words.specs.ReadingForm.{name, number, identifier, name_of, number_of}
use Rattle.np_words.specs.Text.{spelled, operator_lexeme, decimal_text}
use Rattle.np_words.specs.Text as text
use Rattle.np_words.specs.Written.{IsIdent, IsDecimal}
use Rattle.np_words.proofs.ExprKinds.{call_of, minus_made, div_made, add_made, mul_made, cons_made, number_made, bare_made, plain_is, is_plain, IsEnd, IsTwo, two_made, made_two, IsCalled, FromSlash, FromStar, FromPlus, bracket_is, is_bracket, either_expr, expr_either}
use Rattle.np_words.proofs.ExprStarts.{starting_call, starting_from_slash, starting_from_star, starting_from_plus, starting_plain, starting_expr}
use Rattle.np_words.proofs.ExprTexts.{tail_of, IsBracketed, opens, text_number, text_bare, text_call, text_minus, text_sub, text_div, text_add, text_mul, bare_number, bare_bare, bare_call, bare_minus, bare_sub, bare_div, bare_add, bare_mul}
use Rattle.np_words.proofs.ReadingNumbers.{SameDecimal, reads_decimal}
use Rattle.np_words.proofs.ReadingWords.{SameWord, starting_name, starting_identifier, reads_name, reads_identifier, identifier_avoids, name_avoids}

-- the same but for places
abbrev pub SameExpr : Expr → Expr → Type 0
SameExpr a b = bare_expr a ≡ bare_expr b

abbrev pub print : Expr → Printed
print = printed.expr spelled

-- what follows the first bracket
abbrev body : Expr → Printed
body v ls = tail_of (print v ls)

abbrev print_parts : List Expr → Printed
print_parts parts ls = each print parts (right ∷ ls)

abbrev SameParts : List Expr → List Expr → Type 0
SameParts xs ys = map bare_expr xs ≡ map bare_expr ys

-- ---- a function with its arguments

abbrev pub SameIdents : List Ident → List Ident → Type 0
SameIdents xs ys = map bare_ident xs ≡ map bare_ident ys

abbrev pub print_idents : List Ident → Printed
print_idents idents ls = each (text.identifier spelled) idents (right ∷ ls)

same_call : (x y : Word × List Ident) → SamePair SameWord SameIdents x y → SameExpr (call_of x) (call_of y)
same_call x y h =
    bare_call x.0 x.1 ∙ ap (λ (w : Word). e.Call w (map bare_ident x.1)) h.0 ∙ ap (λ (idents : List Ident). e.Call (bare_word y.0) idents) h.1 ∙ sym (bare_call y.0 y.1)

pub reads_idents : Reads (All IsIdent) print_idents SameIdents (row identifier)
reads_idents = reads_each_row bare_ident starting_identifier reads_identifier (identifier_avoids right (λ place. refl) (λ place. refl))

reads_call : Reads IsCalled body SameExpr call
unfolding call
reads_call = reads_made call_of body SameExpr (λ x ls. ap tail_of (text_call spelled x.0 x.1 [] ls)) same_call (reads_both reads_name reads_idents)

-- no name is such a lexeme
abbrev NoName : Lexeme → Type 0
NoName lexeme = (place : Place) → name_of place lexeme ≡ None

call_avoids : (lexeme : Lexeme) → NoName lexeme → Avoids lexeme call
unfolding call
call_avoids lexeme none item items is =
    made_refuses call_of (both name (row identifier)) (item ∷ items) (both_refuses name (row identifier) (item ∷ items) (name_avoids lexeme none item items is))

-- ---- numbers and names

name_refuses : (items : List Item) → Refuses name items → Refuses (made bare_made name) items
name_refuses items refuses = made_refuses bare_made name items refuses

no_number : AvoidsSaid number_of IsDecimal number_made (made bare_made name)
unfolding number
no_number item items d h =
    let said = said_by (number_of item.place) item.piece d h in
    name_refuses (item ∷ items)
    (name_avoids said.0
    (λ place. ap (name_of place) (says_spelled number_of (λ (b : Decimal). numeral (decimal_text b)) SameDecimal reads_decimal item.place said.0 d said.2).1) item items said.1)

reads_plain : Reads (λ (v : Expr). IsPlain (out-Expr v)) print SameExpr plain
unfolding plain number
reads_plain =
    reads_same (λ v. IsPlain (out-Expr v)) plain_is is_plain
    (reads_either_by number_of IsDecimal number_made (λ d. numeral (decimal_text d)) SameDecimal (says_spelled number_of _ SameDecimal reads_decimal) (says_back number_of _ SameDecimal reads_decimal)
    (λ d u ls. text_number spelled d [] ls) (λ d b u v same _. bare_number d ∙ ap (λ (c : Decimal). e.Number c) same ∙ sym (bare_number b)) (reads_pure tt)
    (reads_made bare_made print SameExpr (λ w ls. text_bare spelled w [] ls) (λ w v same. bare_bare w ∙ ap (λ (u : Word). e.Bare u) same ∙ sym (bare_bare v)) reads_name)
    (name_refuses [] (starting_name 0).tries.nothing) no_number)

pub plain_avoids : (lexeme : Lexeme) → ((place : Place) → number_of place lexeme ≡ None) → NoName lexeme → Avoids lexeme plain
unfolding plain
plain_avoids lexeme no_digits none item items is =
    either_by_refuses number_of (λ d. made (number_made d) (pure {A = Unit {0}} tt)) (made bare_made name) item items (silent number_of item lexeme is (no_digits item.place))
    (name_refuses (item ∷ items) (name_avoids lexeme none item items is))

-- ---- by the readers of parts

abbrev print_end : Option Expr → Printed
print_end None ls = right ∷ ls
print_end (Some b) ls = print b (right ∷ ls)

abbrev SameEnd : Option Expr → Option Expr → Type 0
SameEnd a b = option_map bare_expr a ≡ option_map bare_expr b

minus_text : (a : Expr) (o : Option Expr) (ls : List Lexeme) → body (minus_of a o) ls ≡ operator_lexeme (codes "-") ∷ print a (print_end o ls)
minus_text a None ls = ap tail_of (text_minus spelled a [] ls)
minus_text a (Some b) ls = ap tail_of (text_sub spelled a b [] ls)

some_is : (a b : Expr) → Some a ≡ Some b → a ≡ b
some_is a b h = cc

same_minus : (a b : Expr) (o p : Option Expr) → SameExpr a b → SameEnd o p → SameExpr (minus_of a o) (minus_of b p)
same_minus a b None None h k = bare_minus a ∙ ap (λ (x : Expr). e.Minus x) h ∙ sym (bare_minus b)
same_minus a b (Some c) (Some d) h k =
    bare_sub a c ∙ ap (λ (x : Expr). e.Sub x (bare_expr c)) h ∙ ap (λ (x : Expr). e.Sub (bare_expr b) x) (some_is (bare_expr c) (bare_expr d) k) ∙ sym (bare_sub b d)
same_minus a b None (Some d) h k = absurd cc
same_minus a b (Some c) None h k = absurd cc

same_div : (x y : Expr × Expr) → SamePair SameExpr SameExpr x y → SameExpr (div_made x) (div_made y)
same_div x y h = bare_div x.0 x.1 ∙ ap (λ (a : Expr). e.Div a (bare_expr x.1)) h.0 ∙ ap (λ (a : Expr). e.Div (bare_expr y.0) a) h.1 ∙ sym (bare_div y.0 y.1)

same_parts : (x y : Expr × List Expr) → SamePair SameExpr SameParts x y → SameParts (cons_made x) (cons_made y)
same_parts x y h = ap (λ (a : Expr). a ∷ map bare_expr x.1) h.0 ∙ ap (λ (bs : List Expr). bare_expr y.0 ∷ bs) h.1

module _ (P : Expr → Type 0) (part : Reader Expr) (starting : Starting part) (avoids : Avoids right part) (reads : Reads P print SameExpr part) where
  pub reads_last : Reads P (λ (a : Expr) (ls : List Lexeme). print a (right ∷ ls)) SameExpr (last part)
  unfolding last
  reads_last = reads_before reads (reads_expect right)

  last_refuses : (items : List Item) → Refuses part items → Refuses (made (λ b. Some b) (last part)) items
  unfolding last
  last_refuses items refuses = made_refuses (λ b. Some b) (before part (expect right)) items (before_refuses part (expect right) items refuses)

  abbrev EitherEnd : Option Expr → Type 0
  EitherEnd a = (a ≡ None) ⊎ Made (λ b. Some b) P a

  reads_end : Reads (IsEnd P) print_end SameEnd (maybe_last part)
  unfolding maybe_last
  reads_end =
      reads_same (IsEnd P) to from
      (reads_either right (reads_weaker SameEnd (λ a b h. ap (option_map bare_expr) h) (reads_pure None))
      (reads_made (λ b. Some b) print_end SameEnd (λ b ls. refl) (λ a b h. ap (λ (x : Expr). Some x) h) reads_last)
      (λ a ls h. ap (λ (o : Option Expr). print_end o ls) h) (last_refuses [] (starting 0).tries.nothing) (λ item items is. last_refuses (item ∷ items) (avoids item items is)))
    where
      to : (a : Option Expr) → EitherEnd a → IsEnd P a
      to a (inl h) = subst (IsEnd P) (sym h) tt
      to a (inr h) = subst (IsEnd P) h.1 h.2

      from : (a : Option Expr) → IsEnd P a → EitherEnd a
      from None h = inl refl
      from (Some b) h = inr (b, refl, h)

  reads_two : Reads (IsTwo P) print_parts SameParts (two_parts part)
  unfolding two_parts
  reads_two =
      reads_same (IsTwo P) (two_made P) (made_two P)
      (reads_made cons_made print_parts SameParts (λ x ls. refl) same_parts (reads_both reads (reads_each_some bare_expr starting reads avoids)))

  reads_from_slash : Reads (FromSlash P) body SameExpr (from_slash part)
  unfolding from_slash quotient
  reads_from_slash =
      reads_either_made (operator_lexeme (codes "/")) div_made (λ x ls. ap tail_of (text_div spelled x.0 x.1 [] ls)) same_div (reads_both reads reads_last) reads_call
      (starting_call 0).tries.nothing (call_avoids (operator_lexeme (codes "/")) (λ place. refl))

  slash_avoids : (lexeme : Lexeme) → same_lexeme lexeme (operator_lexeme (codes "/")) ≡ false → NoName lexeme → Avoids lexeme (from_slash part)
  unfolding from_slash
  slash_avoids lexeme differ none = either_avoids lexeme (operator_lexeme (codes "/")) (quotient part) call differ (call_avoids lexeme none)

  reads_from_star : Reads (FromStar P) body SameExpr (from_star part)
  unfolding from_star product
  reads_from_star =
      reads_either_made (operator_lexeme (codes "*")) mul_made (λ parts ls. ap tail_of (text_mul spelled parts [] ls))
      (λ xs ys h. bare_mul xs ∙ ap mul_made h ∙ sym (bare_mul ys)) reads_two reads_from_slash
      (starting_from_slash part starting 0).tries.nothing (slash_avoids (operator_lexeme (codes "*")) refl (λ place. refl))

  star_avoids : (lexeme : Lexeme) → same_lexeme lexeme (operator_lexeme (codes "*")) ≡ false → same_lexeme lexeme (operator_lexeme (codes "/")) ≡ false → NoName lexeme → Avoids lexeme (from_star part)
  unfolding from_star
  star_avoids lexeme differ others none = either_avoids lexeme (operator_lexeme (codes "*")) (product part) (from_slash part) differ (slash_avoids lexeme others none)

  reads_from_plus : Reads (FromPlus P) body SameExpr (from_plus part)
  unfolding from_plus sum
  reads_from_plus =
      reads_either_made (operator_lexeme (codes "+")) add_made (λ parts ls. ap tail_of (text_add spelled parts [] ls))
      (λ xs ys h. bare_add xs ∙ ap add_made h ∙ sym (bare_add ys)) reads_two reads_from_star
      (starting_from_star part starting 0).tries.nothing (star_avoids (operator_lexeme (codes "+")) refl refl (λ place. refl))

  plus_avoids : Avoids (operator_lexeme (codes "-")) (from_plus part)
  unfolding from_plus
  plus_avoids = either_avoids (operator_lexeme (codes "-")) (operator_lexeme (codes "+")) (sum part) (from_star part) refl (star_avoids (operator_lexeme (codes "-")) refl refl (λ place. refl))

  reads_in_bracket : Reads (λ (v : Expr). IsBracketed P (out-Expr v)) body SameExpr (in_bracket part)
  unfolding in_bracket difference
  reads_in_bracket =
      reads_same (λ v. IsBracketed P (out-Expr v)) (bracket_is P) (is_bracket P)
      (reads_either_made (operator_lexeme (codes "-")) minus_made (λ x ls. minus_text x.0 x.1 ls) (λ x y h. same_minus x.0 y.0 x.1 y.1 h.0 h.1) (reads_both reads reads_end) reads_from_plus
      (starting_from_plus part starting 0).tries.nothing plus_avoids)

-- ---- expressions

-- no expression begins with such a lexeme
pub expr_avoids : (lexeme : Lexeme) → same_lexeme lexeme left ≡ false → ((place : Place) → number_of place lexeme ≡ None) → NoName lexeme → (depth : ℕ) → Avoids lexeme (expr depth)
unfolding expr
expr_avoids lexeme differ no_digits none zero = plain_avoids lexeme no_digits none
expr_avoids lexeme differ no_digits none (suc depth) = either_avoids lexeme left (in_bracket (expr depth)) plain differ (plain_avoids lexeme no_digits none)

pub expr_ends : (depth : ℕ) → Avoids right (expr depth)
expr_ends depth = expr_avoids right refl (λ place. refl) (λ place. refl) depth

pub reads_expr : (depth : ℕ) → Reads (IsExpr depth) print SameExpr (expr depth)
unfolding expr
reads_expr zero = reads_plain
reads_expr (suc depth) =
    reads_same (IsExpr (suc depth)) (λ v h. either_expr (IsExpr depth) (out-Expr v) h) (λ v h. expr_either (IsExpr depth) (out-Expr v) h)
    (reads_either left (reads_in_bracket (IsExpr depth) (expr depth) (starting_expr depth) (expr_ends depth) (reads_expr depth)) reads_plain
    (λ v ls h. opens spelled (IsExpr depth) (out-Expr v) v (roll-out-Expr v) h [] ls) (starting_plain 0).tries.nothing (plain_avoids left (λ place. refl) (λ place. refl)))
