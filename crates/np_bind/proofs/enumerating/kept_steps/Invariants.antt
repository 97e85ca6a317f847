use Rattle.std.proofs.Common.{◌≡◌, drop, []}
use Rattle.np_bind.specs.Bindings.{steps_from}
use Rattle.np_bind.specs.Binding.{kept_from}
use Rattle.np_bind.proofs.enumerating.kept_steps.Given as goal

-- the actions that are left are tried after these kept steps
abbrev pub invariant-loop-number : goal.invariant-loop-number
invariant-loop-number l =
    kept_from l.known.task l.known.values l.metric [] (steps_from l.known.task 0 l.action-items)
    ≡ kept_from l.known.task l.known.values l.metric l.kept (steps_from l.known.task l.number (drop l.number l.action-items))
