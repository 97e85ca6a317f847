use Rattle.np_search.proofs.Entries.{other_entry, key_from_least}
use Rattle.np_search.proofs.open_list.OpenList.pop.Goals as goal

pub returns-clause-taken : goal.returns-clause-taken
returns-clause-taken c = record {
  gone = c.in_ok-key.ensures.updates.1;
  others = λ n k other. c.in_ok-key.ensures.updates.2 (k, record { 0 = n }) (other_entry c.in_ok-key.field-0-1.0 n c.in_ok-key.key k other);
}

pub returns-clause-there : goal.returns-clause-there
returns-clause-there c = c.in_ok-key.ensures.member

pub returns-clause-least : goal.returns-clause-least
returns-clause-least c = record { least = λ n k h. key_from_least (c.in_ok-key.key, c.in_ok-key.field-0-1) (k, record { 0 = n }) (c.in_ok-key.ensures.least (k, record { 0 = n }) h) }
