use Rattle.std.proofs.Common.{◌∙◌}
use Rattle.np_scale.proofs.Scalings.{starts_whole, tables_positive, parts_ready}
use Rattle.np_scale.proofs.scaling.flat_parts.Goals as goal

pub start_state-requires-clause-positive : goal.start_state-requires-clause-positive
start_state-requires-clause-positive c =
    tables_positive c.args.bound.now c.in_ok-tables.tables.facts c.in_ok-tables.tables.values c.in_ok-tables.tables.unit c.in_ok-tables.ensures.tables

pub start_state-requires-clause-starts : goal.start_state-requires-clause-starts
start_state-requires-clause-starts c =
    starts_whole c.args.bound.now c.in_ok-tables.tables.facts c.in_ok-tables.tables.values c.in_ok-tables.tables.unit c.in_ok-starts.starts c.in_ok-tables.ensures.tables (c.in_ok-starts.ensures ∙ c.as_slice.ensures)

pub parts_from-requires : goal.parts_from-requires
parts_from-requires c =
    parts_ready c.args.bound.now c.in_ok-tables.tables.facts c.in_ok-tables.tables.values c.in_ok-tables.tables.unit c.requires c.in_ok-tables.ensures.tables
