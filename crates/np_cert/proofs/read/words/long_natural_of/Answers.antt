use Rattle.std.proofs.Common.{rules, subst, sym}
use Rattle.std.specs.Str.Parse.{ParsesUnsigned}
use Rattle.np_cert.proofs.ReadingNumbers.{natural_none, natural_some, natural_above, natural_unlike, says_utf8, says_parsed}
use Rattle.np_cert.proofs.read.words.long_natural_of.Goals as goal
use Rattle.np_cert.proofs.read.words.long_natural_of.Goals.{then-number-bound-via-then-number-bound, then-number-bound-via-else-number-bound+then-not-is_decimal}

pub returns-in_default-clause-value : goal.returns-in_default-clause-value
returns-in_default-clause-value c =
    sym (natural_none c.args.bound c.args.text.now (λ n says. c.in_default.ensures.cases.0 (says_utf8 c.args.bound c.args.text.now n c.requires says)))

pub returns-in_default-parse-clause-value : goal.returns-in_default-parse-clause-value
returns-in_default-parse-clause-value c =
    let parses = subst (λ t. ParsesUnsigned 128 10 t c.parse.result) c.in-Ok.ensures.cases.0 c.parse.ensures.value.0 in
    sym (natural_none c.args.bound c.args.text.now (λ n says. c.in_default-parse.not-Ok n (says_parsed c.args.bound c.args.text.now n c.parse.result c.requires says parses)))

pub returns-then-number-bound-clause-value : goal.returns-then-number-bound-clause-value
returns-then-number-bound-clause-value c =
    let parses = subst (λ t. ParsesUnsigned 128 10 t c.parse.result) c.in-Ok.ensures.cases.0 c.parse.ensures.value.0 in
    elim c.then-number-bound.branch [
      | then-number-bound-via-then-number-bound w ↦ sym (natural_above c.args.bound c.args.text.now c.in-Ok-parse.number c.parse.result c.requires parses c.in-Ok-parse.is w.if-number-bound.true)
      | then-number-bound-via-else-number-bound+then-not-is_decimal w ↦
          sym (natural_unlike c.args.bound c.args.text.now c.in-Ok-parse.number c.parse.result c.requires parses c.in-Ok-parse.is
          (λ e. let k = w.is_decimal.ensures.1 e in search rules))
    ]

pub returns-clause-value : goal.returns-clause-value
returns-clause-value c =
    sym (natural_some c.args.bound c.args.text.now c.in-Ok-parse.number c.requires (record { below = c.if-number-bound.false; text_is = c.is_decimal.ensures.0 (search rules) }))
