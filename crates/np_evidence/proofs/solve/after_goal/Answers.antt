use Rattle.std.proofs.Common.{◌≡◌, ℕ, List, sym, subst, ap, ◌∙◌}
use Rattle.np_space.specs.declared.bound.Bound.TheVariants.{AtLeast}
use Rattle.np_search.specs.declared.tree.Node.{Node}
use Rattle.np_search.proofs.Taking.{read_node}
use Rattle.np_cert.specs.declared.certificate.Limit.TheVariants.{Number}
use Rattle.np_cert.specs.Layout.{certificate_text}
use Rattle.np_evidence.specs.Entries.{certificate_of}
use Rattle.np_evidence.specs.Searches.{HasWayBack, IsWayTo}
use Rattle.np_evidence.proofs.Nodes.{are_reached}
use Rattle.np_evidence.proofs.Ends.{has_way, goal_outcome}
use Rattle.np_evidence.proofs.solve.after_goal.Goals as goal

pub steps_to-requires : goal.steps_to-requires
steps_to-requires c =
    let found = c.requires.found in
    subst (λ (nodes : List Node). HasWayBack nodes c.args.goal c.args.nodes) (sym c.as_slice.ensures.value)
    (has_way c.args.flat.now c.requires.flat c.args.tree.states c.args.tree.nodes.items c.args.nodes c.requires.few
    (AtLeast found.cost) found.right c.args.goal found.at.s found.at.node found.at.kept.state found.at.kept.found)

pub evidence-requires : goal.evidence-requires
evidence-requires c =
    are_reached c.args.flat.now c.requires.flat c.args.tree.states c.args.tree.nodes.items (AtLeast c.requires.found.cost) c.args.nodes c.requires.few c.requires.found.right

pub returns : goal.returns
returns c =
    let found = c.requires.found in
    let nodes = c.args.tree.nodes.items in
    let read : c.index.result.now ≡ found.at.node = read_node nodes c.args.goal found.at.node c.index.result.now found.at.kept.found c.index.ensures in
    goal_outcome c.args.flat.now c.requires.flat c.args.nodes c.requires.few c.args.tree c.args.goal found c.in_ok-steps.steps
    (subst (λ (ns : List Node). IsWayTo ns c.args.goal c.in_ok-steps.steps.items) c.as_slice.ensures.value c.in_ok-steps.ensures)
    c.index.result.now.cost (sym found.at.cost_is ∙ ap (λ (n : Node). n.cost) (sym read)) c.in_ok-text.text
    (c.in_ok-text.ensures ∙ ap (λ (k : ℕ). certificate_text (certificate_of (Number k) c.args.tree.states nodes)) c.from.ensures)
