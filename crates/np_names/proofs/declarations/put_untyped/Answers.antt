use Rattle.std.proofs.Common.{arith, [], ◌∷◌, None}
use Rattle.std.proofs.lemmas.Grind.{common_steps}
use Rattle.np_names.specs.declared.fault.Source.TheVariants.{Domain}
use Rattle.np_names.specs.declared.fault.TypeWhy.TheVariants.{NameTwice}
use Rattle.np_names.specs.Declarations.{listed_under}
use Rattle.np_names.specs.Names.{repeats, texts}
use Rattle.np_names.proofs.Stepping.{step_first, step_kept, untyped_cons, untyped_names_cons}
use Rattle.np_names.proofs.declarations.put_untyped.Goals as goal

pub returns-in_err-put_untyped_word : goal.returns-in_err-put_untyped_word
returns-in_err-put_untyped_word c =
    let all_first = step_first (λ names w. repeats names (listed_under None (w ∷ [])))
    (λ names ws. repeats names (listed_under None ws))
    (λ w. texts (listed_under None (w ∷ []))) (λ ws. texts (listed_under None ws)) untyped_cons untyped_names_cons Domain NameTwice c.args.names.now c.loop-word.names c.args.words.now c.loop-word.word-index c.word-item.result c.loop-word-test.true c.word-item.is c.loop-word.invariant.1 in
    grind (arith, common_steps, all_first)

pub loop-word-preserved : goal.loop-word-preserved
loop-word-preserved c =
    step_kept (λ names w. repeats names (listed_under None (w ∷ [])))
    (λ names ws. repeats names (listed_under None ws))
    (λ w. texts (listed_under None (w ∷ []))) (λ ws. texts (listed_under None ws)) untyped_cons untyped_names_cons Domain NameTwice c.args.names.now c.loop-word.names c.args.words.now c.loop-word.word-index c.word-item.result c.loop-word-test.true c.word-item.is c.put_untyped_word.new.names c.loop-word.invariant (c.in_ok-put_untyped_word.ensures.0) (c.in_ok-put_untyped_word.ensures.1)
