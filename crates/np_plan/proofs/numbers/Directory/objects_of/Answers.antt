use Rattle.std.proofs.Common.{map, sym}
use Rattle.np_model.specs.declared.task.Object.{Object}
use Rattle.np_plan.specs.Numbers.{numbers_of}
use Rattle.np_plan.proofs.LookUps.{word_found, word_missing}
use Rattle.np_plan.proofs.numbers.Directory.objects_of.Goals as goal

pub returns-in_default : goal.returns-in_default
returns-in_default c =
    let names = map (λ (o : Object). o.name) c.args.self.now.task.now.objects in
    word_missing names c.args.words.now c.loop-word.word-index c.word-item.result c.loop-word-test.true c.word-item.is c.loop-word.objects (numbers_of names c.args.words.now) (sym c.in_default.ensures) c.loop-word.invariant

pub loop-word-preserved : goal.loop-word-preserved
loop-word-preserved c =
    let names = map (λ (o : Object). o.name) c.args.self.now.task.now.objects in
    rw c.in_ok-push.ensures.ok
    (word_found names c.args.words.now c.loop-word.word-index c.word-item.result c.loop-word-test.true c.word-item.is c.loop-word.objects c.in-Some.number (numbers_of names c.args.words.now) (sym c.in-Some.ensures) c.loop-word.invariant)
