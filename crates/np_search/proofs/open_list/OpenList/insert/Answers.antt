use Rattle.np_search.proofs.Entries.{other_entry}
use Rattle.np_search.proofs.open_list.OpenList.insert.Goals as goal

pub returns : goal.returns
returns c = record {
  there = c.in_ok-insert.ensures.updates.1;
  others = λ n k other. c.in_ok-insert.ensures.updates.2 (k, record { 0 = n }) (other_entry c.args.node n c.args.key k other);
}
