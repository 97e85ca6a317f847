use Rattle.std.proofs.Common.{length, arith}
use Rattle.np_cert.specs.declared.certificate.Limit.TheVariants.{Number}
use Rattle.np_check.proofs.Listed.{listed_within}
use Rattle.np_check.proofs.tables.put_all.Goals as goal

pub overflow_cast-subgoal : goal.overflow_cast-subgoal
overflow_cast-subgoal c =
    let within = listed_within (length c.args.numbers.now.items) c.args.listed.now c.loop-subgoal.subgoal-index 0 (0, Number 0) c.loop-subgoal-test.true c.requires.ascending in
    let a = c.loop-subgoal.numbers.ok in let b = c.loop-subgoal.numbers.small in omega (arith, within, c.loop-subgoal.invariant.count, c.loop-subgoal.numbers.ok)

pub index_mut-requires : goal.index_mut-requires
index_mut-requires c =
    let within = listed_within (length c.args.numbers.now.items) c.args.listed.now c.loop-subgoal.subgoal-index 0 (0, Number 0) c.loop-subgoal-test.true c.requires.ascending in
    omega (arith, within, c.loop-subgoal.invariant.count, c.loop-subgoal.numbers.ok)
