use Rattle.std.proofs.Common.{◌≡◌, ◌∙◌, ◌≤◌, ◌<◌, ap, sym, length, arith}
use Rattle.std.specs.List.{flat_map}
use Rattle.np_model.specs.Ground.{same_atom}
use Rattle.np_flat.specs.declared.limits.TheConstants.{MOST_FACTS}
use Rattle.np_scale.specs.declared.fault.ScaleFault.TheVariants.{TooManyFacts}
use Rattle.np_scale.specs.Tables.{each_once, atoms_in, facts_of}
use Rattle.np_scale.specs.Code.{pointed, few}
use Rattle.np_scale.proofs.Tables.{once_deep, once_steps, once_both, pointed_length, few_fit, few_past}
use Rattle.np_scale.proofs.numbering.Facts.new.Goals as goal

pub loop-step-preserved : goal.loop-step-preserved
loop-step-preserved c =
    once_deep same_atom atoms_in (λ b. b.needs) (pointed c.loop-step.set.keys) (pointed c.put_atoms.new.set.keys) c.as_slice-step-items.result.now c.loop-step.step-index
    c.step-item.result c.loop-step-test.true c.loop-step.invariant
    (c.in_ok-put_atoms.ensures ∙ ap (λ l. each_once same_atom (pointed c.loop-step.set.keys) (flat_map atoms_in l)) c.as_slice.ensures ∙ ap (λ b. each_once same_atom (pointed c.loop-step.set.keys) (flat_map atoms_in b.needs)) c.step-item.is)

pub returns-then-len-gt-MOST_FACTS : goal.returns-then-len-gt-MOST_FACTS
returns-then-len-gt-MOST_FACTS c =
    let all : pointed c.put_atoms-2.new.set.keys ≡ facts_of c.args.bound.now =
    once_both same_atom atoms_in (pointed c.loop-step.set.keys) (pointed c.put_atoms-2.new.set.keys) (flat_map (λ b. b.needs) c.args.bound.now.steps) c.args.bound.now.goal
    (once_steps same_atom atoms_in (λ b. b.needs) (pointed c.loop-step.set.keys) c.as_slice-step-items.result.now c.args.bound.now.steps c.loop-step.step-index c.as_slice-step-items.ensures c.loop-step-test.false c.loop-step.invariant)
    (c.in_ok-put_atoms-2.ensures ∙ ap (λ l. each_once same_atom (pointed c.loop-step.set.keys) (flat_map atoms_in l)) c.as_slice-2.ensures) in
    let past : MOST_FACTS < length (pointed c.put_atoms-2.new.set.keys) = omega (arith, pointed_length c.put_atoms-2.new.set.keys, c.len.ensures.len) in
    ap (few MOST_FACTS TooManyFacts) (sym all) ∙ few_past MOST_FACTS TooManyFacts (pointed c.put_atoms-2.new.set.keys) past

pub returns : goal.returns
returns c =
    let all : pointed c.put_atoms-2.new.set.keys ≡ facts_of c.args.bound.now =
    once_both same_atom atoms_in (pointed c.loop-step.set.keys) (pointed c.put_atoms-2.new.set.keys) (flat_map (λ b. b.needs) c.args.bound.now.steps) c.args.bound.now.goal
    (once_steps same_atom atoms_in (λ b. b.needs) (pointed c.loop-step.set.keys) c.as_slice-step-items.result.now c.args.bound.now.steps c.loop-step.step-index c.as_slice-step-items.ensures c.loop-step-test.false c.loop-step.invariant)
    (c.in_ok-put_atoms-2.ensures ∙ ap (λ l. each_once same_atom (pointed c.loop-step.set.keys) (flat_map atoms_in l)) c.as_slice-2.ensures) in
    let within : length (pointed c.put_atoms-2.new.set.keys) ≤ MOST_FACTS = omega (arith, pointed_length c.put_atoms-2.new.set.keys, c.len.ensures.len) in
    ap (few MOST_FACTS TooManyFacts) (sym all) ∙ few_fit MOST_FACTS TooManyFacts (pointed c.put_atoms-2.new.set.keys) within
