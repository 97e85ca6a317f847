use Rattle.std.proofs.Common.{◌≡◌, length, drop}
use Rattle.np_check.specs.Listed.{put_all}
use Rattle.np_check.proofs.tables.put_all.Given as goal

abbrev pub invariant-loop-subgoal : goal.invariant-loop-subgoal
invariant-loop-subgoal l = record {
  rest : put_all l.listed l.initial.numbers.items ≡ put_all (drop l.subgoal-index l.listed) l.numbers.items;
  count : length l.numbers.items ≡ length l.initial.numbers.items;
}
