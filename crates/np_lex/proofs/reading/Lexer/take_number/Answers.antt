use Rattle.std.proofs.Common.{sym, refl, ap, ◌∙◌}
use Rattle.np_lex.specs.FirstToken.{first_number}
use Rattle.np_lex.specs.Lexers.{bytes_of}
use Rattle.np_lex.proofs.Fronts.{takes_number, leaves_number}
use Rattle.np_lex.proofs.Readings.{rest_is}
use Rattle.np_lex.proofs.reading.Lexer.take_number.Goals as goal

pub returns-in_err-length-clause-other : goal.returns-in_err-length-clause-other
returns-in_err-length-clause-other c =
    rw c.from_residual.ensures
    (leaves_number c.args.self.now c.args.self.now (ap first_number (sym (rest_is c.args.self.now)) ∙ sym c.first_number.ensures.value ∙ c.in_err-length.was) refl)

pub returns-clause-bytes : goal.returns-clause-bytes
unfolding bytes_of
returns-clause-bytes c = λ i. ((c.pass.ensures.bytes) i).now

pub returns-clause-taken : goal.returns-clause-taken
returns-clause-taken c =
    takes_number c.args.self.now c.pass.new.self c.in_ok-length.length
    (ap first_number (sym (rest_is c.args.self.now)) ∙ sym c.first_number.ensures.value ∙ c.in_ok-length.was) c.pass.ensures.bytes c.pass.ensures.offset
