use Rattle.std.proofs.Common.{arith, [], ◌∷◌, map, refl}
use Rattle.std.proofs.lemmas.Grind.{common_steps}
use Rattle.np_names.specs.declared.fault.Source.TheVariants.{Domain}
use Rattle.np_names.specs.declared.fault.TypeWhy.TheVariants.{NameTwice}
use Rattle.np_names.specs.Declarations.{names_of, declared_repeats}
use Rattle.np_names.specs.Names.{texts}
use Rattle.np_names.proofs.Stepping.{step_first, step_kept, declared_one, declared_cons}
use Rattle.np_names.proofs.declarations.put_functions.Goals as goal

pub returns-in_err-put_declared : goal.returns-in_err-put_declared
returns-in_err-put_declared c =
    let all_first = step_first (λ names f. declared_one names f.0)
    (λ names fs. declared_repeats names (map (λ f. f.0) fs))
    (λ f. f.0.name.text ∷ []) (λ fs. texts (names_of (map (λ f. f.0) fs))) (λ names f fs. declared_cons names f.0 (map (λ f. f.0) fs)) (λ f fs. refl) Domain NameTwice c.args.names.now c.loop-function.names c.args.functions.now c.loop-function.function-index c.function-item.result c.loop-function-test.true c.function-item.is c.loop-function.invariant.1 in
    grind (arith, common_steps, all_first)

pub loop-function-preserved : goal.loop-function-preserved
loop-function-preserved c =
    step_kept (λ names f. declared_one names f.0)
    (λ names fs. declared_repeats names (map (λ f. f.0) fs))
    (λ f. f.0.name.text ∷ []) (λ fs. texts (names_of (map (λ f. f.0) fs))) (λ names f fs. declared_cons names f.0 (map (λ f. f.0) fs)) (λ f fs. refl) Domain NameTwice c.args.names.now c.loop-function.names c.args.functions.now c.loop-function.function-index c.function-item.result c.loop-function-test.true c.function-item.is c.put_declared.new.names c.loop-function.invariant (c.in_ok-put_declared.ensures.0) (c.in_ok-put_declared.ensures.1)
