use Rattle.std.proofs.Common.{◌^◌, length, subst}
use Rattle.np_flat.specs.Flats.{IsForm, IsSubgoal}
use Rattle.np_flat.proofs.Forms.{amounts_small}
use Rattle.np_flat.proofs.flat.Flat.step_achieves.Goals as goal

pub net_terms-requires-clause-changes : goal.net_terms-requires-clause-changes
net_terms-requires-clause-changes c = rw c.as_slice-in-Form.ensures (amounts_small (length c.args.self.now.values) (2 ^ 62) c.args.step.now.changes c.requires.step.changes)

pub net_terms-requires-clause-terms : goal.net_terms-requires-clause-terms
net_terms-requires-clause-terms c =
    let of : IsForm (length c.args.self.now.values) c.in-Form.form = subst (IsSubgoal (length c.args.self.now.facts) (length c.args.self.now.values)) c.in-Form.is c.requires.subgoal in
    rw c.as_slice-in-Form-2.ensures (amounts_small (length c.args.self.now.values) (2 ^ 31) c.in-Form.form.terms of.terms)
