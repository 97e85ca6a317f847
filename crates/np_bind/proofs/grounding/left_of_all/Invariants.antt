use Rattle.std.proofs.Common.{◌≡◌, ◌++◌, drop, Ok}
use Rattle.np_linear.specs.Answers.{and_then}
use Rattle.np_bind.specs.Grounding.{left_of_condition, left_of_all}
use Rattle.np_bind.proofs.grounding.left_of_all.Given as goal

-- what is left so far, and then what is left of the rest
abbrev pub invariant-loop-condition : goal.invariant-loop-condition
invariant-loop-condition l =
    left_of_all (left_of_condition l.known.task l.known.values l.objects) l.conditions
    ≡ and_then (left_of_all (left_of_condition l.known.task l.known.values l.objects) (drop l.condition-index l.conditions)) (λ bs. Ok (l.all ++ bs))
