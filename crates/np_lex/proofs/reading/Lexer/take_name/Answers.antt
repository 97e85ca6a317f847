use Rattle.std.proofs.Common.{refl, sym, subst, ◌∙◌, true≢false}
use Rattle.np_lex.specs.Tokens.{BeginsWithName}
use Rattle.np_lex.specs.Lexers.{bytes_of}
use Rattle.np_lex.proofs.Readings.{rest_is}
use Rattle.np_lex.proofs.Fronts.{takes_name, leaves_name}
use Rattle.np_lex.proofs.reading.Lexer.take_name.Goals as goal

pub returns-then-found-clause-bytes : goal.returns-then-found-clause-bytes
unfolding bytes_of
returns-then-found-clause-bytes c = λ i. ((c.pass.ensures.bytes) i).now

pub returns-then-found-clause-taken : goal.returns-then-found-clause-taken
returns-then-found-clause-taken c found =
    takes_name c.args.self.now c.pass.new.self c.args.name.now
    (subst (λ bytes. BeginsWithName bytes c.args.name.now) (rest_is c.args.self.now) (c.begins_with_name-found.ensures.0 found))
    c.pass.ensures.bytes c.pass.ensures.offset

pub returns-else-found-clause-other : goal.returns-else-found-clause-other
returns-else-found-clause-other c absent =
    leaves_name c.args.self.now c.args.self.now c.args.name.now
    (λ begins. true≢false (sym (c.begins_with_name-found.ensures.1 (subst (λ bytes. BeginsWithName bytes c.args.name.now) (sym (rest_is c.args.self.now)) begins)) ∙ absent))
    refl
