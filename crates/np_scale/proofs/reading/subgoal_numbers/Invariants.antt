use Rattle.std.proofs.Common.{◌≡◌, take, drop, []}
use Rattle.std.specs.List.{flat_map}
use Rattle.np_scale.specs.Limits.{checked_subgoals, with_subgoals, with_conditions}
use Rattle.np_scale.specs.FlatOf.{all_subgoals}
use Rattle.np_scale.specs.Code.{ArePut}
use Rattle.np_scale.proofs.reading.subgoal_numbers.Given as goal

abbrev pub invariant-loop-condition : goal.invariant-loop-condition
invariant-loop-condition l = record {
  known : with_subgoals l.subgoals (flat_map (checked_subgoals l.spot l.tables.facts l.tables.values l.tables.unit) (drop l.condition-index l.conditions))
      ≡ with_conditions l.spot l.tables.facts l.tables.values l.tables.unit l.initial.subgoals l.conditions;
  put : ArePut l.subgoals (all_subgoals l.tables.facts l.tables.values l.tables.unit (take l.condition-index l.conditions)) [] l.numbers.items;
}
