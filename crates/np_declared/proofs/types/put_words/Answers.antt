use Rattle.std.proofs.Common.{◌++◌, Some, [], ◌∷◌, take, refl, sym, ap, ◌∙◌, append_assoc}
use Rattle.np_names.specs.Names.{typed}
use Rattle.np_declared.proofs.SupertypeLaws.{supertypes_more, supertypes_like, typed_word_more}
use Rattle.np_declared.proofs.types.put_words.Goals as goal

pub loop-word-preserved : goal.loop-word-preserved
loop-word-preserved c = λ before h.
    let words = c.args.words.now in
    let i = c.loop-word.word-index in
    let w = c.word-item.result in
    let so_far = before ++ typed (Some c.args.over.now) (take i words) in
    supertypes_like c.insert.new.self (so_far ++ (w, Some c.args.over.now) ∷ []) _
    (append_assoc before (typed (Some c.args.over.now) (take i words)) ((w, Some c.args.over.now) ∷ []) ∙ ap (λ xs. before ++ xs) (sym (typed_word_more c.args.over.now words i w c.loop-word-test.true c.word-item.is)))
    (supertypes_more c.loop-word.supertypes c.insert.new.self so_far w c.args.over.now _ refl c.in_ok-insert.ensures.updates.0 (c.loop-word.invariant before h))
