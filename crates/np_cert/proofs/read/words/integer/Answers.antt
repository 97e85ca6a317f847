use Rattle.std.proofs.Common.{rules, decimal, pos, Ok, ◌<◌, ◌^◌, arith, sym, ap, ◌∙◌}
use mir.Syntax.{w128}
use mir.Val.{SFits}
use Rattle.std.proofs.lemmas.Int.{to_z-of_z}
use Rattle.np_lex.specs.Lexers.{items_left}
use Rattle.np_cert.proofs.ReadingLexemes.{short_integer}
use Rattle.np_cert.proofs.ReadingNumbers.{integer_is}
use Rattle.np_cert.proofs.read.words.integer.Goals as goal

pub returns-in-Some : goal.returns-in-Some
returns-in-Some c =
    let fits : SFits w128 c.from.result = search rules in
    short_integer c.args.lexer.now c.take_natural.new.self (decimal c.in-Some.number) (pos c.in-Some.number) c.in-Some.ensures.taken
    (integer_is (pos c.in-Some.number) (let small : c.in-Some.number < 2 ^ 64 = search rules in omega arith))
    ∙ ap (λ v. Ok (v, items_left c.take_natural.new.self)) (sym c.from.ensures ∙ sym (to_z-of_z w128 c.from.result fits))
