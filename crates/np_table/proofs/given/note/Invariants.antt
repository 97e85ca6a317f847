use Rattle.std.proofs.Common.{◌≡◌, length, drop}
use Rattle.np_table.specs.Given.{noted}
use Rattle.np_table.proofs.given.note.Given as goal

abbrev pub invariant-loop-subgoal : goal.invariant-loop-subgoal
invariant-loop-subgoal l = record {
  rest : noted l.flat l.cost l.reach l.subgoals l.initial.reaches.items ≡ noted l.flat l.cost l.reach (drop l.subgoal-index l.subgoals) l.reaches.items;
  count : length l.reaches.items ≡ length l.initial.reaches.items;
}
