use Rattle.std.proofs.Common.{rules, ◌≡◌, decimal, take, sym, ap, ◌∙◌}
use Rattle.std.proofs.Math.Seq.{take-length}
use Rattle.np_cert.specs.ReadingForm.{natural_of}
use Rattle.np_cert.proofs.ReadingNumbers.{natural_decimal}
use Rattle.np_cert.proofs.read.words.natural_of.Goals as goal

pub returns-in-Some-clause-value : goal.returns-in-Some-clause-value
returns-in-Some-clause-value c =
    let text : c.args.text.now ≡ decimal c.in-Some.number =
    sym (take-length c.args.text.now) ∙ ap (λ n. take n c.args.text.now) (sym c.if-count-text.true) ∙ c.in-Some.ensures.value in
    c.below.ensures.value ∙ sym (ap (natural_of c.args.bound) text ∙ natural_decimal c.args.bound c.in-Some.number (search rules))
