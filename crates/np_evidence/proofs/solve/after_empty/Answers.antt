use Rattle.np_space.specs.declared.bound.Bound.TheVariants.{NoPlan}
use Rattle.np_evidence.proofs.Nodes.{are_reached}
use Rattle.np_evidence.proofs.Ends.{empty_outcome}
use Rattle.np_evidence.proofs.solve.after_empty.Goals as goal

pub evidence-requires : goal.evidence-requires
evidence-requires c = are_reached c.args.flat.now c.requires.flat c.args.tree.states c.args.tree.nodes.items NoPlan c.args._nodes c.requires.few c.requires.found

pub returns : goal.returns
returns c = empty_outcome c.args.flat.now c.requires.flat c.args._nodes c.requires.few c.args.tree c.requires.found c.in_ok-text.text c.in_ok-text.ensures
