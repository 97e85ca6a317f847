use Rattle.np_run.proofs.KeptStates.{zero_given_by}
use Rattle.np_run.proofs.kept_state.give_zero.Goals as goal

pub returns-in_ok-insert : goal.returns-in_ok-insert
returns-in_ok-insert c =
    zero_given_by c.args.map.now c.insert.new.self c.args.term c.zero.result c.get.result c.is_none.result
    c.zero.ensures c.get.ensures.value c.is_none.ensures c.if-is_none.true c.in_ok-insert.ensures.updates.0
