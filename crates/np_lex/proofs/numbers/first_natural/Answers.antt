use Rattle.std.proofs.Common.{ℕ, arith, take, drop, ap, subst, sym, ◌∙◌}
use Rattle.std.proofs.lemmas.List.{take_rest}
use Rattle.std.specs.Str.Parse.{AllDigits}
use Rattle.np_lex.specs.FirstToken.{point_length}
use Rattle.np_lex.proofs.NumberFronts.{digits_alone, digits_are}
use Rattle.np_lex.proofs.Digits.{decimal_digits}
use Rattle.np_lex.proofs.numbers.first_natural.Goals as goal

pub returns-clause-number : goal.returns-clause-number
returns-clause-number c =
    digits_alone c.args.bytes.now c.in_ok-number.count c.in_ok-number.ensures.digits c.in_ok-number.ensures.some
    (ap point_length (sym (take_rest c.args.bytes.now c.in_ok-number.count)) ∙ sym c.point_length.ensures.value ∙ omega (arith, c.if-point_length-gt0.false))

pub returns-in_err-number-clause-none : goal.returns-in_err-number-clause-none
returns-in_err-number-clause-none c =
    let bytes = c.args.bytes.now in
    rw c.from_residual.ensures
    (λ (n m : ℕ) small is e.
    let same = (digits_are bytes m is (subst (AllDigits 10) (sym e) (decimal_digits n (omega arith)))).0 in
    c.in_err-number.ensures.none n small (ap (λ k. take k bytes) (sym same) ∙ e))

pub returns-then-point_length-gt0-clause-none : goal.returns-then-point_length-gt0-clause-none
returns-then-point_length-gt0-clause-none c n m small is e =
    let bytes = c.args.bytes.now in
    let none = (digits_are bytes m is (subst (AllDigits 10) (sym e) (decimal_digits n (omega arith)))).1 in
    let point = ap point_length (ap (λ k. drop k bytes) (sym c.in_ok-number.ensures.digits) ∙ sym (take_rest bytes c.in_ok-number.count)) in
    omega (arith, none, point, c.point_length.ensures.value, c.if-point_length-gt0.true)
