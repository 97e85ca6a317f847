use Rattle.std.proofs.Common.{◌^◌, length}
use Rattle.np_flat.proofs.Forms.{amounts_small}
use Rattle.np_count.proofs.forms.net.Goals as goal

pub net_terms-requires-clause-changes : goal.net_terms-requires-clause-changes
net_terms-requires-clause-changes c = rw c.as_slice.ensures (amounts_small (length c.args.parts.now.values) (2 ^ 62) c.args.step.now.changes c.requires.changes)

pub net_terms-requires-clause-terms : goal.net_terms-requires-clause-terms
net_terms-requires-clause-terms c = rw c.as_slice-2.ensures (amounts_small (length c.args.parts.now.values) (2 ^ 31) c.args.form.now.terms c.requires.form.terms)
