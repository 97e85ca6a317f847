use Rattle.std.proofs.Common.{◌≡◌, ◌++◌, [], drop, Ok}
use Rattle.np_linear.specs.Answers.{and_then}
use Rattle.np_bind.specs.Grounding.{left_of_condition, left_of_all, or_never}
use Rattle.np_bind.proofs.binding.left_of_goal.Given as goal

-- what is left so far, and then what is left of the rest
abbrev pub invariant-loop-condition : goal.invariant-loop-condition
invariant-loop-condition l =
    left_of_all (λ c. or_never (left_of_condition l.known.task l.known.values [] c)) l.condition-items
    ≡ and_then (left_of_all (λ c. or_never (left_of_condition l.known.task l.known.values [] c)) (drop l.condition-index l.condition-items)) (λ bs. Ok (l.all ++ bs))
