use Rattle.std.proofs.Common.{◌≡◌, ◌∙◌, ◌≤◌, ◌<◌, ap, sym, length, arith}
use Rattle.std.specs.List.{flat_map}
use Rattle.np_model.specs.Ground.{same_term}
use Rattle.np_flat.specs.declared.limits.TheConstants.{MOST_VALUES}
use Rattle.np_scale.specs.declared.fault.ScaleFault.TheVariants.{TooManyValues}
use Rattle.np_scale.specs.Tables.{each_once, terms_in, values_of}
use Rattle.np_scale.specs.Code.{pointed, few}
use Rattle.np_scale.proofs.Tables.{once_deep, once_steps, once_both, pointed_length, few_fit, few_past}
use Rattle.np_scale.proofs.numbering.Values.new.Goals as goal

pub loop-step-preserved : goal.loop-step-preserved
loop-step-preserved c =
    once_deep same_term terms_in (λ b. b.needs) (pointed c.loop-step.set.keys) (pointed c.put_terms.new.set.keys) c.as_slice-step-items.result.now c.loop-step.step-index
    c.step-item.result c.loop-step-test.true c.loop-step.invariant
    (c.in_ok-put_terms.ensures ∙ ap (λ l. each_once same_term (pointed c.loop-step.set.keys) (flat_map terms_in l)) c.as_slice.ensures ∙ ap (λ b. each_once same_term (pointed c.loop-step.set.keys) (flat_map terms_in b.needs)) c.step-item.is)

pub returns-then-len-gt-MOST_VALUES : goal.returns-then-len-gt-MOST_VALUES
returns-then-len-gt-MOST_VALUES c =
    let all : pointed c.put_terms-2.new.set.keys ≡ values_of c.args.bound.now =
    once_both same_term terms_in (pointed c.loop-step.set.keys) (pointed c.put_terms-2.new.set.keys) (flat_map (λ b. b.needs) c.args.bound.now.steps) c.args.bound.now.goal
    (once_steps same_term terms_in (λ b. b.needs) (pointed c.loop-step.set.keys) c.as_slice-step-items.result.now c.args.bound.now.steps c.loop-step.step-index c.as_slice-step-items.ensures c.loop-step-test.false c.loop-step.invariant)
    (c.in_ok-put_terms-2.ensures ∙ ap (λ l. each_once same_term (pointed c.loop-step.set.keys) (flat_map terms_in l)) c.as_slice-2.ensures) in
    let past : MOST_VALUES < length (pointed c.put_terms-2.new.set.keys) = omega (arith, pointed_length c.put_terms-2.new.set.keys, c.len.ensures.len) in
    ap (few MOST_VALUES TooManyValues) (sym all) ∙ few_past MOST_VALUES TooManyValues (pointed c.put_terms-2.new.set.keys) past

pub returns : goal.returns
returns c =
    let all : pointed c.put_terms-2.new.set.keys ≡ values_of c.args.bound.now =
    once_both same_term terms_in (pointed c.loop-step.set.keys) (pointed c.put_terms-2.new.set.keys) (flat_map (λ b. b.needs) c.args.bound.now.steps) c.args.bound.now.goal
    (once_steps same_term terms_in (λ b. b.needs) (pointed c.loop-step.set.keys) c.as_slice-step-items.result.now c.args.bound.now.steps c.loop-step.step-index c.as_slice-step-items.ensures c.loop-step-test.false c.loop-step.invariant)
    (c.in_ok-put_terms-2.ensures ∙ ap (λ l. each_once same_term (pointed c.loop-step.set.keys) (flat_map terms_in l)) c.as_slice-2.ensures) in
    let within : length (pointed c.put_terms-2.new.set.keys) ≤ MOST_VALUES = omega (arith, pointed_length c.put_terms-2.new.set.keys, c.len.ensures.len) in
    ap (few MOST_VALUES TooManyValues) (sym all) ∙ few_fit MOST_VALUES TooManyValues (pointed c.put_terms-2.new.set.keys) within
