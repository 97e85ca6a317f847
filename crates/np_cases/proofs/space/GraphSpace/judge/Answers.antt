use Rattle.std.proofs.Common.{◌∙◌}
use Rattle.std.proofs.lemmas.Int.{to_z-of_z}
use mir.Syntax.{w128}
use mir.Val.{to_z, of_z}
use Rattle.np_frac.specs.Fractions.{whole}
use Rattle.np_state.specs.States.{value_of}
use Rattle.np_cases.proofs.GraphPlans.{is_bound}
use Rattle.np_cases.proofs.space.GraphSpace.judge.Goals as goal

pub returns-clause-bound : goal.returns-clause-bound
returns-clause-bound c =
    is_bound c.args.self.now.edges.now c.args.self.now.goal c.args.self.now.bounds.now c.args.self.now.distances.now c.args.self.now.checked (value_of whole c.args.s.now) (to_z w128 (of_z w128 c.place_of.result)) c.bound_at-bound.result
    (to_z-of_z w128 c.place_of.result (record { sfits = c.place_of.type_inv }) ∙ c.place_of.ensures) c.bound_at-bound.ensures.value
