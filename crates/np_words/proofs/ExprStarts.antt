-- The readers of expressions go by the next item, and are good.
use Rattle.std.proofs.Common.{◌≡◌, ℕ, zero, suc, false, None, Some, refl, codes}
use Rattle.np_lex.specs.Tokens.{left, right, numeral}
use Rattle.np_read.proofs.PlacedParts.{starts_either_by}
use Rattle.np_words.specs.Bare.{nowhere}
use Rattle.np_read.specs.ItemReaders.{Reader, pure, expect, both, made, further, row}
use Rattle.np_read.proofs.Good.{Good, Starting, good_pure, good_of}
use Rattle.np_read.proofs.GoodParts.{starts_expect, starts_either, starts_before, starts_both, starts_made, good_both, good_made, good_row, starts_further}
use Rattle.np_words.specs.Text.{operator_lexeme}
use Rattle.np_words.specs.declared.expr.Expr.{Expr}
use Rattle.np_words.specs.declared.expr.Expr.TheVariants as e
use Rattle.np_words.specs.ReadingForm.{name, identifier, number_of, parts_in}
use Rattle.np_words.specs.Written.{is_decimal}
use Rattle.np_words.specs.ExprForm.{call, plain, last, maybe_last, difference, quotient, two_parts, sum, product, from_slash, from_star, from_plus, in_bracket, expr}
use Rattle.np_words.proofs.ReadingWords.{starting_name, starting_identifier}

pub closes : (k : ℕ) → Good k (expect right)
closes k = good_of k (expect right) (starts_expect k right)

pub starting_call : Starting call
unfolding call
starting_call k =
    starts_made k (λ x. e.Call x.0 x.1) (both name (row identifier))
    (starts_both k name (row identifier) (starting_name k) (good_row identifier starting_identifier k))

module _ (part : Reader Expr) (starting : Starting part) where
  pub starting_last : Starting (last part)
  unfolding last
  starting_last k = starts_before k part (expect right) (starting k) (closes k)

  good_maybe_last : (k : ℕ) → Good k (maybe_last part)
  unfolding maybe_last
  good_maybe_last k =
      good_of k _ (starts_either k right (pure None) (made (λ b. Some b) (last part)) (good_pure k None) (starts_made k (λ b. Some b) (last part) (starting_last k)).tries)

  good_difference : (k : ℕ) → Good k (difference part)
  unfolding difference
  good_difference k = good_made k _ (both part (maybe_last part)) (good_both k part (maybe_last part) (good_of k part (starting k)) (good_maybe_last k))

  good_quotient : (k : ℕ) → Good k (quotient part)
  unfolding quotient
  good_quotient k = good_made k _ (both part (last part)) (good_both k part (last part) (good_of k part (starting k)) (good_of k (last part) (starting_last k)))

  good_two_parts : (k : ℕ) → Good k (two_parts part)
  unfolding two_parts
  good_two_parts k =
      good_made k _ (both part (further part (row part)))
      (good_both k part (further part (row part)) (good_of k part (starting k)) (good_of k (further part (row part)) (starts_further part starting k)))

  good_sum : (k : ℕ) → Good k (sum part)
  unfolding sum
  good_sum k = good_made k (λ parts. e.Add parts) (two_parts part) (good_two_parts k)

  good_product : (k : ℕ) → Good k (product part)
  unfolding product
  good_product k = good_made k (λ parts. e.Mul parts) (two_parts part) (good_two_parts k)

  pub starting_from_slash : Starting (from_slash part)
  unfolding from_slash
  starting_from_slash k = starts_either k (operator_lexeme (codes "/")) (quotient part) call (good_quotient k) (starting_call k).tries

  pub starting_from_star : Starting (from_star part)
  unfolding from_star
  starting_from_star k = starts_either k (operator_lexeme (codes "*")) (product part) (from_slash part) (good_product k) (starting_from_slash k).tries

  pub starting_from_plus : Starting (from_plus part)
  unfolding from_plus
  starting_from_plus k = starts_either k (operator_lexeme (codes "+")) (sum part) (from_star part) (good_sum k) (starting_from_star k).tries

  pub starting_in_bracket : Starting (in_bracket part)
  unfolding in_bracket
  starting_in_bracket k = starts_either k (operator_lexeme (codes "-")) (difference part) (from_plus part) (good_difference k) (starting_from_plus k).tries

-- some number
zero_says : number_of nowhere (numeral (codes "0")) ≡ Some (record { negative = false; whole = codes "0"; part = None; place = nowhere })
unfolding parts_in is_decimal
zero_says = refl

pub starting_plain : Starting plain
unfolding plain
starting_plain k =
    starts_either_by k number_of _ (made (λ w. e.Bare w) name) (λ d. good_made k (λ (u : Unit {0}). e.Number d) (pure {A = Unit {0}} tt) (good_pure k tt))
    (starts_made k (λ w. e.Bare w) name (starting_name k)).tries nowhere (numeral (codes "0")) _ zero_says

-- expressions, however deep
pub starting_expr : (depth : ℕ) → Starting (expr depth)
unfolding expr
starting_expr zero k = starting_plain k
starting_expr (suc depth) k =
    starts_either k left (in_bracket (expr depth)) plain (good_of k (in_bracket (expr depth)) (starting_in_bracket (expr depth) (starting_expr depth) k)) (starting_plain k).tries
