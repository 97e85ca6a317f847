use Rattle.std.proofs.Common.{◌≡◌, Ok, take, map}
use Rattle.np_bind.specs.Grounding.{number_on}
use Rattle.np_scale.specs.Wholes.{scaled_number}
use Rattle.np_scale.specs.Limits.{each_checked}
use Rattle.np_scale.specs.Code.{pointed}
use Rattle.np_scale.specs.ScaledParts.{checked_value}
use Rattle.np_scale.proofs.scaling.scaled_starts.Given as goal

abbrev pub invariant-loop-term : goal.invariant-loop-term
invariant-loop-term l = record {
  passed : each_checked (checked_value l.tables.unit l.starts) (pointed (take l.term-index l.term-items)) ≡ Ok tt;
  values : l.values ≡ map (λ t. scaled_number l.tables.unit (number_on l.starts t)) (pointed (take l.term-index l.term-items));
}
