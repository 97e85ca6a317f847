use Rattle.std.proofs.Common.{◌<◌, ◌≤◌, ◌∙◌, sym, length, arith}
use Rattle.np_flat.specs.declared.limits.TheConstants.{MOST_TERMS}
use Rattle.np_scale.specs.declared.fault.ScaleFault.TheVariants.{NumberWide, FormLong}
use Rattle.np_scale.proofs.ReadSubgoals.{form_long, form_made, form_wide, form_told}
use Rattle.np_scale.proofs.reading.form_subgoal.Goals as goal

pub returns-then-len-gt-MOST_TERMS : goal.returns-then-len-gt-MOST_TERMS
returns-then-len-gt-MOST_TERMS c =
    let long : MOST_TERMS < length c.args.sum.now.terms = omega (arith, c.len.ensures) in
    form_told FormLong c.in_ok-copy_spot.ensures (form_long c.args.spot.now c.args.tables.now.values c.args.tables.now.unit c.args.side.strict c.args.side.negated c.args.sum.now long)

pub returns-in-Some : goal.returns-in-Some
returns-in-Some c =
    let few : length c.args.sum.now.terms ≤ MOST_TERMS = omega (arith, c.len.ensures) in
    form_made c.args.spot.now c.args.tables.now.values c.args.tables.now.unit c.args.side.strict c.args.side.negated c.args.sum.now c.in-Some.form few (sym c.in-Some.is ∙ c.in_ok-form.ensures)

pub returns-in_ok-copy_spot-in-None : goal.returns-in_ok-copy_spot-in-None
returns-in_ok-copy_spot-in-None c =
    let few : length c.args.sum.now.terms ≤ MOST_TERMS = omega (arith, c.len.ensures) in
    form_told NumberWide c.in_ok-copy_spot-in-None.ensures
    (form_wide c.args.spot.now c.args.tables.now.values c.args.tables.now.unit c.args.side.strict c.args.side.negated c.args.sum.now few (sym c.in-None.is ∙ c.in_ok-form.ensures))
