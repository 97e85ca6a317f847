use Rattle.std.proofs.Common.{arith}
use Rattle.std.proofs.lemmas.Grind.{common_steps}
use Rattle.np_names.specs.declared.fault.Source.TheVariants.{Domain}
use Rattle.np_names.specs.declared.fault.TypeWhy.TheVariants.{NameTwice}
use Rattle.np_names.specs.Declarations.{listed_under, listed_types}
use Rattle.np_names.specs.Names.{repeats, texts}
use Rattle.np_names.proofs.Stepping.{step_first, step_kept, listed_cons, listed_names_cons}
use Rattle.np_names.proofs.declarations.put_types.Goals as goal

pub returns-in_err-put_listed : goal.returns-in_err-put_listed
returns-in_err-put_listed c =
    let all_first = step_first (λ names g. repeats names (listed_under g.of g.words))
    (λ names gs. repeats names (listed_types gs))
    (λ g. texts (listed_under g.of g.words)) (λ gs. texts (listed_types gs)) listed_cons listed_names_cons Domain NameTwice c.args.names.now c.loop-group.names c.args.groups.now c.loop-group.group-index c.group-item.result c.loop-group-test.true c.group-item.is c.loop-group.invariant.1 in
    grind (arith, common_steps, all_first)

pub loop-group-preserved : goal.loop-group-preserved
loop-group-preserved c =
    step_kept (λ names g. repeats names (listed_under g.of g.words))
    (λ names gs. repeats names (listed_types gs))
    (λ g. texts (listed_under g.of g.words)) (λ gs. texts (listed_types gs)) listed_cons listed_names_cons Domain NameTwice c.args.names.now c.loop-group.names c.args.groups.now c.loop-group.group-index c.group-item.result c.loop-group-test.true c.group-item.is c.put_listed.new.names c.loop-group.invariant (rw c.as_slice.ensures at c.in_ok-put_listed.ensures.0) (rw c.as_slice.ensures at c.in_ok-put_listed.ensures.1)
