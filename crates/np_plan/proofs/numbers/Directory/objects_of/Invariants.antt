use Rattle.std.proofs.Common.{◌≡◌, map, drop}
use Rattle.np_plan.specs.Numbers.{numbers_of}
use Rattle.np_plan.proofs.LookUps.{before_numbers}
use Rattle.np_plan.proofs.numbers.Directory.objects_of.Given as goal

abbrev pub invariant-loop-word : goal.invariant-loop-word
invariant-loop-word l =
    let names = map (λ o. o.name) l.self.task.now.objects in
    before_numbers l.objects (numbers_of names (drop l.word-index l.words)) ≡ numbers_of names l.words
