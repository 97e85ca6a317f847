use Rattle.std.proofs.Common.{ap}
use Rattle.np_flat.specs.declared.parts.Subgoal.TheVariants as subgoal
use Rattle.np_scale.specs.Forms.{literal_of, never_form}
use Rattle.np_scale.proofs.ReadSubgoals.{one_known}
use Rattle.np_scale.proofs.reading.put_condition.Goals as goal

pub returns-in-Atom-clause-known : goal.returns-in-Atom-clause-known
returns-in-Atom-clause-known c =
    rw c.in-Atom.is
    (one_known c.put_subgoal.result c.put_subgoal.new.subgoals c.args.subgoals.now c.literal_of.result
    (literal_of c.args.tables.now.facts c.in-Atom.positive c.in-Atom.atom) c.literal_of.ensures c.put_subgoal.ensures.known)

pub returns-in-Never-clause-known : goal.returns-in-Never-clause-known
returns-in-Never-clause-known c =
    rw c.in-Never.is
    (one_known c.put_subgoal-in-Never.result c.put_subgoal-in-Never.new.subgoals c.args.subgoals.now
    (subgoal.Form c.never.result) (subgoal.Form never_form) (ap (λ f. subgoal.Form f) c.never.ensures) c.put_subgoal-in-Never.ensures.known)
