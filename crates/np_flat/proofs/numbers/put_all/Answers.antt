use Rattle.np_flat.proofs.Ascending.{put_all_more}
use Rattle.np_flat.proofs.numbers.put_all.Goals as goal

pub loop-number-preserved : goal.loop-number-preserved
loop-number-preserved c = record {
  put = put_all_more c.args.more.now c.args.numbers.now.items c.loop-number.numbers.items c.put_in.new.numbers.items c.loop-number.number-index c.loop-number-test.true c.loop-number.invariant.put c.in_ok-put_in.ensures.put;
  ascending = c.in_ok-put_in.ensures.ascending;
}
