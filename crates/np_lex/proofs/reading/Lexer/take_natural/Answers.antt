use Rattle.std.proofs.Common.{◌≡◌, ℕ, ◌<◌, ◌^◌, Some, decimal, refl, subst, ap, sym, take, ◌∙◌, rules}
use Rattle.np_lex.specs.FirstToken.{first_number}
use Rattle.np_lex.specs.Lexers.{bytes_of}
use Rattle.np_lex.proofs.Fronts.{takes_natural, leaves_natural}
use Rattle.np_lex.proofs.Readings.{rest_is}
use Rattle.np_lex.proofs.reading.Lexer.take_natural.Goals as goal

pub returns-clause-bytes : goal.returns-clause-bytes
unfolding bytes_of
returns-clause-bytes c = λ i. ((c.pass.ensures.bytes) i).now

pub returns-clause-taken : goal.returns-clause-taken
returns-clause-taken c =
    takes_natural c.args.self.now c.pass.new.self c.in_ok-number.number c.in_ok-number.length (search rules) (ap first_number (sym (rest_is c.args.self.now)) ∙ c.in_ok-number.ensures.number)
    (ap (take c.in_ok-number.length) (sym (rest_is c.args.self.now)) ∙ c.in_ok-number.ensures.value) c.pass.ensures.bytes c.pass.ensures.offset

pub returns-in_err-number-clause-other : goal.returns-in_err-number-clause-other
returns-in_err-number-clause-other c =
    rw c.from_residual.ensures
    (leaves_natural c.args.self.now c.args.self.now
    (subst (λ bytes. (n m : ℕ) → n < 10 ^ 18 → first_number bytes ≡ Some m → take m bytes ≡ decimal n → ⊥) (rest_is c.args.self.now) c.in_err-number.ensures.none) refl)
