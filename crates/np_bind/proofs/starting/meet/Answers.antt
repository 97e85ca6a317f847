use Rattle.std.specs.Prelude.{is_some}
use Rattle.np_model.specs.States.{value_among}
use Rattle.np_bind.proofs.Zeros.{put_met, was_met}
use Rattle.np_bind.proofs.starting.meet.Goals as goal

pub returns-clause-met : goal.returns-clause-met
returns-clause-met c =
    λ q. put_met c.args.term.now q.now (is_some (value_among c.args.given.now q.now)) (was_met c.args.met.now q) (was_met c.insert.new.self q) (c.in_ok-insert.ensures.updates.0 q)
