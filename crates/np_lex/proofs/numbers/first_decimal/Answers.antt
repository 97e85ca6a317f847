use Rattle.std.proofs.Common.{take, ap, sym, ◌∙◌, true≢false}
use Rattle.std.specs.List.{prefix_len}
use Rattle.std.proofs.lemmas.List.Sums.{prefix_len-le-length}
use Rattle.np_lex.specs.FirstToken.{is_digit}
use Rattle.np_lex.proofs.Digits.{decimal_is, no_decimal, too_many}
use Rattle.np_lex.proofs.numbers.first_decimal.Goals as goal

pub returns-in_err-number-clause-none : goal.returns-in_err-number-clause-none
returns-in_err-number-clause-none c =
    let bytes = c.args.bytes.now in
    rw c.from_residual.ensures (too_many bytes (prefix_len is_digit bytes) c.in_err-number.ensures.none (prefix_len-le-length is_digit bytes))

pub returns-then-not-has_no_leading_zero-clause-none : goal.returns-then-not-has_no_leading_zero-clause-none
returns-then-not-has_no_leading_zero-clause-none c n small e =
    let bytes = c.args.bytes.now in
    no_decimal (take c.in_ok-number.count bytes) n (λ leads. true≢false (sym (c.has_no_leading_zero.ensures.1 leads) ∙ c.if-not-has_no_leading_zero.true)) small
    (ap (λ m. take m bytes) c.in_ok-number.ensures.count ∙ e)

pub returns-clause-value : goal.returns-clause-value
returns-clause-value c =
    decimal_is c.args.bytes.now c.in_ok-number.count c.in_ok-number.number c.in_ok-number.ensures.few (c.has_no_leading_zero.ensures.0 c.if-not-has_no_leading_zero.false) c.in_ok-number.ensures.digits c.in_ok-number.ensures.value
