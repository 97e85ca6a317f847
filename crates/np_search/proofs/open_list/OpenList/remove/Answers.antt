use Rattle.np_search.proofs.Entries.{other_entry}
use Rattle.np_search.proofs.open_list.OpenList.remove.Goals as goal

pub returns : goal.returns
returns c = record {
  gone = c.remove.ensures.updates.1;
  others = λ n k other. c.remove.ensures.updates.2 (k, record { 0 = n }) (other_entry c.args.node n c.args.key k other);
}
