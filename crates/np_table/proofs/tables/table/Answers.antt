use Rattle.std.proofs.Common.{subst, length}
use Rattle.np_table.specs.Tables.{at}
use Rattle.np_table.specs.Listing.{AreListed}
use Rattle.np_table.proofs.Listing.{listed_greatest}
use Rattle.np_table.proofs.tables.table.Goals as goal

pub returns-clause-greatest : goal.returns-clause-greatest
returns-clause-greatest c =
    listed_greatest c.args.flat.now c.args.state.now (at c.in_ok-entries.entries.items) c.in_ok-numbers.numbers.items c.listed.ensures.kept
    (subst (λ xs. AreListed (at xs) (length c.args.flat.now.subgoals) c.in_ok-numbers.numbers.items) c.as_slice.ensures.value c.in_ok-numbers.ensures.listed) c.in_ok-entries.ensures.greatest
