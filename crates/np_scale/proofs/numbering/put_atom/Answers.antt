use Rattle.std.proofs.Common.{◌∙◌, ap, sym}
use Rattle.np_model.specs.Ground.{same_atom}
use Rattle.np_scale.specs.Tables.{each_once, atoms_in}
use Rattle.np_scale.specs.Code.{pointed}
use Rattle.np_scale.proofs.Tables.{pointed_insert}
use Rattle.np_scale.proofs.numbering.put_atom.Goals as goal

pub returns-in_ok-insert : goal.returns-in_ok-insert
returns-in_ok-insert c =
    ap pointed c.in_ok-insert.ensures.keys ∙ pointed_insert same_atom c.args.set.now.keys _ ∙ ap (λ x. each_once same_atom (pointed c.args.set.now.keys) (atoms_in x)) (sym c.in-Atom.is)
