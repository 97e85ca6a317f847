use Rattle.std.proofs.Common.{length, ap, sym, refl, ◌∙◌, arith, true-eqb, false-eqb}
use Rattle.np_lex.specs.FirstToken.{first_token}
use Rattle.np_lex.specs.Lexers.{bytes_of}
use Rattle.np_lex.proofs.Readings.{rest_is, finds_end, finds_bad_byte, gives_token}
use Rattle.np_lex.proofs.reading.Lexer.next.Goals as goal

pub returns-then-is_empty-clause-end : goal.returns-then-is_empty-clause-end
returns-then-is_empty-clause-end c = finds_end c.args.self.now (sym (ap length (rest_is c.args.self.now)) ∙ true-eqb _ 0 c.if-is_empty.ensures)

pub returns-in_default-clause-bad_byte : goal.returns-in_default-clause-bad_byte
returns-in_default-clause-bad_byte c =
    let some = false-eqb _ 0 c.if-is_empty.ensures in
    finds_bad_byte c.args.self.now _ (omega (arith, some, ap length (rest_is c.args.self.now))) (ap first_token (sym (rest_is c.args.self.now)) ∙ sym c.in_default.ensures.value)
    c.place_by-place.ensures

pub returns-clause-bytes : goal.returns-clause-bytes
unfolding bytes_of
returns-clause-bytes c = refl

pub returns-clause-token : goal.returns-clause-token
returns-clause-token c =
    let some = false-eqb _ 0 c.if-is_empty.ensures in
    gives_token c.args.self.now _ _ c.in-Some.length (ap first_token (sym (rest_is c.args.self.now)) ∙ sym c.in-Some.ensures.value)
    refl refl refl c.after_blanks.ensures.value (omega (arith, some, ap length (rest_is c.args.self.now)))
    c.place_by-place.ensures
