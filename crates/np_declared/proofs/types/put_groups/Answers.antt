use Rattle.std.proofs.Common.{◌++◌, ◌+◌, take, arith, sym, ap, ◌∙◌, append_assoc}
use Rattle.std.proofs.lemmas.Grind.{common_steps}
use Rattle.np_names.specs.Names.{typed, typed_words}
use Rattle.np_declared.proofs.SupertypeLaws.{supertypes_like, typed_words_next}
use Rattle.np_declared.proofs.types.put_groups.Goals as goal

pub returns-in_err-put_group : goal.returns-in_err-put_group
returns-in_err-put_group c = λ before h.
    let first = c.in_err-put_group.ensures (before ++ typed_words (take c.loop-group.group-index c.args.groups.now)) (c.loop-group.invariant before h) in
    grind (arith, common_steps, first)

pub loop-group-preserved : goal.loop-group-preserved
loop-group-preserved c = λ before h.
    let groups = c.args.groups.now in
    let i = c.loop-group.group-index in
    let g = c.group-item.result in
    let answer = c.in_ok-put_group.ensures (before ++ typed_words (take i groups)) (c.loop-group.invariant before h) in
    supertypes_like c.put_group.new.supertypes ((before ++ typed_words (take i groups)) ++ typed g.of g.words) (before ++ typed_words (take (i + 1) groups))
    (append_assoc before (typed_words (take i groups)) (typed g.of g.words) ∙ ap (λ xs. before ++ xs) (sym (typed_words_next groups i g c.loop-group-test.true c.group-item.is))) answer.1
