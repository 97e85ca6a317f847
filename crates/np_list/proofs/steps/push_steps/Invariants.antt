use Rattle.std.proofs.Common.{string_bytes, ◌≡◌, ◌++◌, take}
use Rattle.std.specs.List.{enumerate_from, flat_map}
use Rattle.np_list.specs.ListText.{step_line}
use Rattle.np_list.proofs.steps.push_steps.Given as goal

abbrev pub invariant-loop-number : goal.invariant-loop-number
invariant-loop-number l = string_bytes l.text ≡ string_bytes l.initial.text ++ flat_map (λ p. step_line l.task p.0 p.1) (enumerate_from 0 (take l.number l.steps))
