use Rattle.std.proofs.Common.{◌≡◌, drop}
use Rattle.np_bind.specs.Grounding.{with_effects, no_effects}
use Rattle.np_bind.proofs.net.net_of.Given as goal

-- the effects that are left are taken into what those before come to
abbrev pub invariant-loop-effect : goal.invariant-loop-effect
invariant-loop-effect l =
    with_effects l.known.task l.known.values l.objects no_effects l.effects
    ≡ with_effects l.known.task l.known.values l.objects l.net (drop l.effect-index l.effects)
