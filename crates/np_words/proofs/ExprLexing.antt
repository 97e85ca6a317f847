-- What a lexer takes is read as an expression.
use Rattle.std.proofs.Common.{◌≡◌, ◌-◌, ◌<◌, ℕ, zero, suc, List, [], None, Some, Result, Ok, Err, sym, ap, subst, ◌∙◌, arith, codes}
use Rattle.np_lex.specs.declared.reading.Lexer.{Lexer}
use Rattle.np_lex.specs.Lexers.{items_left, Leaves, Takes}
use Rattle.np_lex.specs.Tokens.{Lexeme, Item, left, right}
use Rattle.np_read.specs.declared.fault.ReadFault.{ReadFault}
use Rattle.np_read.specs.ItemAnswers.{Gives}
use Rattle.np_read.specs.ItemReaders.{Outcome, Reader, pure, either, made}
use Rattle.np_read.proofs.ItemLexing.{first_taken, second_taken}
use Rattle.np_words.specs.declared.expr.Expr.{Expr}
use Rattle.np_words.specs.ExprForm.{call, plain, last, maybe_last, difference, quotient, sum, product, from_slash, from_star, from_plus, in_bracket, expr}
use Rattle.np_words.specs.Text.{operator_lexeme}
use Rattle.np_words.specs.declared.expr.Expr.TheVariants as e
use Rattle.np_words.specs.declared.word.Decimal.{Decimal}
use Rattle.np_words.specs.ReadingForm.{name, number, number_of}
use Rattle.np_read.proofs.PlacedLexing.{either_by_read, either_by_unread, refused_whole}
use Rattle.np_read.proofs.PlacedParts.{made_refuses}
use Rattle.np_words.proofs.ExprKinds.{number_made, bare_made}
use Rattle.np_words.proofs.ReadingWords.{starting_name}
use Rattle.np_words.proofs.ExprStarts.{starting_call, starting_from_slash, starting_from_star, starting_from_plus, starting_plain, starting_expr, starting_last}

-- ---- a choice

module _ {A X : Type 0} (lexeme : Lexeme) (first second : Reader A) (old new : Lexer) (view : X → A) (rest : List Item) (r : Result X ReadFault) where
  pub gives_first : Takes old new lexeme → Gives view rest r (first (items_left new)) → Gives view rest r (either lexeme first second (items_left old))
  gives_first takes gives = subst (λ (x : Outcome A). Gives view rest r x) (sym (first_taken lexeme first second old new takes)) gives

  pub gives_second : second [] ≡ Err [] → Leaves old new (λ found. found ≡ lexeme) → Gives view rest r (second (items_left new)) → Gives view rest r (either lexeme first second (items_left old))
  gives_second nothing leaves gives = subst (λ (x : Outcome A). Gives view rest r x) (sym (second_taken lexeme first second old new nothing leaves)) gives

abbrev Given : List Item → Result Expr ReadFault → Outcome Expr → Type 0
Given rest r read = Gives (λ x. x) rest r read

module _ (depth : ℕ) (old new : Lexer) (rest : List Item) (r : Result Expr ReadFault) where
  abbrev part : Reader Expr
  part = expr depth

  pub slash_taken : Takes old new (operator_lexeme (codes "/")) → Given rest r (quotient part (items_left new)) → Given rest r (from_slash part (items_left old))
  unfolding from_slash
  slash_taken takes gives = gives_first (operator_lexeme (codes "/")) (quotient part) call old new (λ x. x) rest r takes gives

  pub slash_left : Leaves old new (λ found. found ≡ operator_lexeme (codes "/")) → Given rest r (call (items_left new)) → Given rest r (from_slash part (items_left old))
  unfolding from_slash
  slash_left leaves gives = gives_second (operator_lexeme (codes "/")) (quotient part) call old new (λ x. x) rest r (starting_call 0).tries.nothing leaves gives

  pub star_taken : Takes old new (operator_lexeme (codes "*")) → Given rest r (product part (items_left new)) → Given rest r (from_star part (items_left old))
  unfolding from_star
  star_taken takes gives = gives_first (operator_lexeme (codes "*")) (product part) (from_slash part) old new (λ x. x) rest r takes gives

  pub star_left : Leaves old new (λ found. found ≡ operator_lexeme (codes "*")) → Given rest r (from_slash part (items_left new)) → Given rest r (from_star part (items_left old))
  unfolding from_star
  star_left leaves gives =
      gives_second (operator_lexeme (codes "*")) (product part) (from_slash part) old new (λ x. x) rest r (starting_from_slash part (starting_expr depth) 0).tries.nothing leaves gives

  pub plus_taken : Takes old new (operator_lexeme (codes "+")) → Given rest r (sum part (items_left new)) → Given rest r (from_plus part (items_left old))
  unfolding from_plus
  plus_taken takes gives = gives_first (operator_lexeme (codes "+")) (sum part) (from_star part) old new (λ x. x) rest r takes gives

  pub plus_left : Leaves old new (λ found. found ≡ operator_lexeme (codes "+")) → Given rest r (from_star part (items_left new)) → Given rest r (from_plus part (items_left old))
  unfolding from_plus
  plus_left leaves gives =
      gives_second (operator_lexeme (codes "+")) (sum part) (from_star part) old new (λ x. x) rest r (starting_from_star part (starting_expr depth) 0).tries.nothing leaves gives

  pub minus_taken : Takes old new (operator_lexeme (codes "-")) → Given rest r (difference part (items_left new)) → Given rest r (in_bracket part (items_left old))
  unfolding in_bracket
  minus_taken takes gives = gives_first (operator_lexeme (codes "-")) (difference part) (from_plus part) old new (λ x. x) rest r takes gives

  pub minus_left : Leaves old new (λ found. found ≡ operator_lexeme (codes "-")) → Given rest r (from_plus part (items_left new)) → Given rest r (in_bracket part (items_left old))
  unfolding in_bracket
  minus_left leaves gives =
      gives_second (operator_lexeme (codes "-")) (difference part) (from_plus part) old new (λ x. x) rest r (starting_from_plus part (starting_expr depth) 0).tries.nothing leaves gives

-- an opening bracket, where one may be opened
pub expr_opened : (depth : ℕ) (old new : Lexer) (rest : List Item) (r : Result Expr ReadFault) → 0 < depth → Takes old new left → Given rest r (in_bracket (expr (depth - 1)) (items_left new)) → Given rest r (expr depth (items_left old))
unfolding expr
expr_opened zero old new rest r lt takes gives = absurd (omega arith)
expr_opened (suc depth) old new rest r lt takes gives =
    let same : suc depth - 1 ≡ depth = omega arith in
    gives_first left (in_bracket (expr depth)) plain old new (λ x. x) rest r takes (subst (λ (k : ℕ). Given rest r (in_bracket (expr k) (items_left new))) same gives)

-- another expression
pub expr_closed : (depth : ℕ) (old new : Lexer) (rest : List Item) (r : Result Expr ReadFault) → 0 < depth → Leaves old new (λ found. found ≡ left) → Given rest r (plain (items_left new)) → Given rest r (expr depth (items_left old))
unfolding expr
expr_closed zero old new rest r lt leaves gives = absurd (omega arith)
expr_closed (suc depth) old new rest r lt leaves gives = gives_second left (in_bracket (expr depth)) plain old new (λ x. x) rest r (starting_plain 0).tries.nothing leaves gives

-- no bracket may be opened
pub expr_plain : (depth : ℕ) (items rest : List Item) (r : Result Expr ReadFault) → depth ≡ 0 → Given rest r (plain items) → Given rest r (expr depth items)
unfolding expr
expr_plain zero items rest r is gives = gives
expr_plain (suc depth) items rest r is gives = absurd (omega arith)

-- ---- numbers and names

pub plain_number : (items rest : List Item) (d : Decimal) → number items ≡ Ok (d, rest) → plain items ≡ Ok (e.Number d, rest)
unfolding plain number
plain_number items rest d is = either_by_read number_of (λ b. made (number_made b) (pure {A = Unit {0}} tt)) (made bare_made name) items d rest is

name_nothing : made bare_made name [] ≡ Err []
name_nothing = made_refuses bare_made name [] (starting_name 0).tries.nothing

pub plain_name : (items rest : List Item) → number items ≡ Err rest → plain items ≡ made bare_made name rest
unfolding plain number
plain_name items rest is =
    either_by_unread number_of (λ b. made (number_made b) (pure {A = Unit {0}} tt)) (made bare_made name) name_nothing items rest is ∙ ap (made bare_made name) (refused_whole number_of items rest is)

-- ---- the second operand of `-`

module _ (depth : ℕ) (old new : Lexer) where
  pub end_taken : Takes old new right → maybe_last (expr depth) (items_left old) ≡ Ok (None, items_left new)
  unfolding maybe_last
  end_taken takes = first_taken right (pure None) (made (λ b. Some b) (last (expr depth))) old new takes

  pub end_left : Leaves old new (λ found. found ≡ right) → maybe_last (expr depth) (items_left old) ≡ made (λ b. Some b) (last (expr depth)) (items_left new)
  unfolding maybe_last
  end_left leaves =
      second_taken right (pure None) (made (λ b. Some b) (last (expr depth))) old new
      (made_refuses (λ b. Some b) (last (expr depth)) [] (starting_last (expr depth) (starting_expr depth) 0).tries.nothing) leaves
