use Rattle.std.proofs.Common.{ℕ, ap, ◌∙◌}
use Rattle.np_space.specs.declared.bound.Bound.TheVariants.{AtLeast}
use Rattle.np_cert.specs.declared.certificate.Limit.TheVariants.{Number}
use Rattle.np_cert.specs.Layout.{certificate_text}
use Rattle.np_evidence.specs.Entries.{certificate_of}
use Rattle.np_evidence.proofs.Nodes.{are_reached}
use Rattle.np_evidence.proofs.Ends.{spent_outcome}
use Rattle.np_evidence.proofs.solve.after_spent.Goals as goal

pub evidence-requires : goal.evidence-requires
evidence-requires c =
    are_reached c.args.flat.now c.requires.flat c.args.tree.states c.args.tree.nodes.items (AtLeast c.args.bound) c.args._nodes c.requires.few c.requires.found.right

pub returns : goal.returns
returns c =
    spent_outcome c.args.flat.now c.requires.flat c.args._nodes c.requires.few c.args.tree c.args.bound c.requires.found c.in_ok-text.text
    (c.in_ok-text.ensures ∙ ap (λ (k : ℕ). certificate_text (certificate_of (Number k) c.args.tree.states c.args.tree.nodes.items)) c.from.ensures)
