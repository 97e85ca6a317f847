use Rattle.std.proofs.Common.{◌≡◌, drop, length, map}
use Rattle.np_model.specs.Types.{type_of, all_fit}
use Rattle.np_model.proofs.types.takes.Given as goal

-- those so far fit, and the others decide
abbrev pub invariant-loop-place : goal.invariant-loop-place
invariant-loop-place l = record {
  same_length : length l.parameters ≡ length l.objects;
  rest : all_fit l.task.types l.parameters (map (type_of l.task.objects) l.objects) ≡ all_fit l.task.types (drop l.place l.parameters) (map (type_of l.task.objects) (drop l.place l.objects));
}
