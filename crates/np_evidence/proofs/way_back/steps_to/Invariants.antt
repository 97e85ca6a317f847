use Rattle.std.proofs.Common.{◌-◌, ◌<◌, length}
use Rattle.np_evidence.specs.Searches.{HasWayBack}
use Rattle.np_evidence.proofs.WaysBack.{IsGathered}
use Rattle.np_evidence.proofs.way_back.steps_to.Given as goal

abbrev pub invariant-loop : goal.invariant-loop
invariant-loop l = record {
  within : l.at < length l.nodes;
  left : HasWayBack l.nodes l.at (l.most - l.counter);
  gathered : IsGathered l.nodes l.number l.at l.steps.items;
}
