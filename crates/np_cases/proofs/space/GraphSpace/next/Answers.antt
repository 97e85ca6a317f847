use Rattle.std.proofs.Common.{◌∙◌, sym, ap, pos, get_or}
use Rattle.std.specs.Ordering.{int_eq}
use Rattle.std.proofs.lemmas.Int.{to_z-of_z}
use mir.Syntax.{w128}
use Rattle.np_frac.specs.Fractions.{whole}
use Rattle.np_state.specs.States.{value_of}
use Rattle.np_cases.proofs.GraphPlans.{edge_taken}
use Rattle.np_cases.proofs.space.GraphSpace.next.Goals as goal

pub returns-clause-successor : goal.returns-clause-successor
returns-clause-successor c =
    edge_taken c.args.self.now.edges.now (value_of whole c.args.s.now) (value_of whole c.in_ok-after.after) c.args.step c.from.result c.requires.step
    (ap (int_eq (get_or c.args.self.now.edges.now c.args.step (pos 0, pos 0, 0)).0) (sym (to_z-of_z w128 c.place_of.result (record { sfits = c.place_of.type_inv }) ∙ c.place_of.ensures)) ∙ sym c.leaves.ensures ∙ c.if-not-leaves.false)
    c.in_ok-after.ensures c.from.ensures
