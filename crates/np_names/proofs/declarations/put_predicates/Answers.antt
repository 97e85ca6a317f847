use Rattle.std.proofs.Common.{arith, [], ◌∷◌, refl}
use Rattle.std.proofs.lemmas.Grind.{common_steps}
use Rattle.np_names.specs.declared.fault.Source.TheVariants.{Domain}
use Rattle.np_names.specs.declared.fault.TypeWhy.TheVariants.{NameTwice}
use Rattle.np_names.specs.Declarations.{names_of, declared_repeats}
use Rattle.np_names.specs.Names.{texts}
use Rattle.np_names.proofs.Stepping.{step_first, step_kept, declared_one, declared_cons}
use Rattle.np_names.proofs.declarations.put_predicates.Goals as goal

pub returns-in_err-put_declared : goal.returns-in_err-put_declared
returns-in_err-put_declared c =
    let all_first = step_first declared_one
    declared_repeats
    (λ x. x.name.text ∷ []) (λ xs. texts (names_of xs)) declared_cons (λ x xs. refl) Domain NameTwice c.args.names.now c.loop-declared.names c.args.predicates.now c.loop-declared.declared-index c.declared-item.result c.loop-declared-test.true c.declared-item.is c.loop-declared.invariant.1 in
    grind (arith, common_steps, all_first)

pub loop-declared-preserved : goal.loop-declared-preserved
loop-declared-preserved c =
    step_kept declared_one
    declared_repeats
    (λ x. x.name.text ∷ []) (λ xs. texts (names_of xs)) declared_cons (λ x xs. refl) Domain NameTwice c.args.names.now c.loop-declared.names c.args.predicates.now c.loop-declared.declared-index c.declared-item.result c.loop-declared-test.true c.declared-item.is c.put_declared.new.names c.loop-declared.invariant (c.in_ok-put_declared.ensures.0) (c.in_ok-put_declared.ensures.1)
