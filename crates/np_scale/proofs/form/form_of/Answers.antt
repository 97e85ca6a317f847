use Rattle.std.proofs.Common.{◌≡◌, ◌∙◌, ap, sym, subst, rules}
use Rattle.std.specs.Prelude.{FitsSigned}
use Rattle.std.specs.Int.{w128}
use Rattle.std.proofs.lemmas.Int.{to_z-of_z}
use Rattle.np_scale.specs.Code.{AreNonzero, AreMadeWhole, IsFactor, turned, small_terms}
use Rattle.np_scale.proofs.Sided.{read, coefficients_are, coefficients_some, constant_is, made_whole_all, none_factor, none_constant, none_terms, made_form}
use Rattle.np_scale.proofs.form.form_of.Goals as goal

pub factor_of-requires : goal.factor_of-requires
factor_of-requires c =
    subst AreNonzero (sym (c.as_slice-2.ensures.value ∙ c.in_ok-coefficients.ensures ∙ ap (read c.args.values.now c.args.side.negated) c.as_slice.ensures))
    (coefficients_some c.args.values.now c.args.side.negated c.args.sum.now.terms c.requires.coefficients)

pub returns-in_default : goal.returns-in_default
returns-in_default c =
    none_factor c.args.values.now c.args.unit c.args.side.strict (turned c.args.side.negated c.args.sum.now) c.as_slice-2.result.now (c.as_slice-2.ensures.value ∙ (c.in_ok-coefficients.ensures ∙ ap (read c.args.values.now c.args.side.negated) c.as_slice.ensures ∙ coefficients_are c.args.values.now c.args.side.negated c.args.sum.now)) (c.factor_of.ensures.none c.in_default.is)

pub returns-in_default-whole_constant : goal.returns-in_default-whole_constant
returns-in_default-whole_constant c =
    let is : IsFactor c.as_slice-2.result.now c.in-Some.factor = c.in-Some.ensures.some in
    none_constant c.args.values.now c.args.unit c.args.side.strict (turned c.args.side.negated c.args.sum.now) c.as_slice-2.result.now (c.as_slice-2.ensures.value ∙ (c.in_ok-coefficients.ensures ∙ ap (read c.args.values.now c.args.side.negated) c.as_slice.ensures ∙ coefficients_are c.args.values.now c.args.side.negated c.args.sum.now)) c.in-Some.factor c.signed-constant.result is.is
    (c.signed-constant.ensures ∙ sym (constant_is c.args.side.negated c.args.sum.now)) c.in_default-whole_constant.ensures

pub whole_terms-requires : goal.whole_terms-requires
whole_terms-requires c =
    let is : IsFactor c.as_slice-2.result.now c.in-Some.factor = c.in-Some.ensures.some in
    let some : AreNonzero c.as_slice-2.result.now =
    subst AreNonzero (sym (c.as_slice-2.ensures.value ∙ c.in_ok-coefficients.ensures ∙ ap (read c.args.values.now c.args.side.negated) c.as_slice.ensures))
    (coefficients_some c.args.values.now c.args.side.negated c.args.sum.now.terms c.requires.coefficients) in
    subst (AreMadeWhole c.in-Some.factor) (c.as_slice-2.ensures.value ∙ sym c.as_slice-3.ensures.value) (made_whole_all c.as_slice-2.result.now c.in-Some.factor some is)

pub returns-in_default-2 : goal.returns-in_default-2
returns-in_default-2 c =
    let is : IsFactor c.as_slice-2.result.now c.in-Some.factor = c.in-Some.ensures.some in
    let same : c.as_slice-3.result.now ≡ c.as_slice-2.result.now = c.as_slice-3.ensures.value ∙ sym c.as_slice-2.ensures.value in
    none_terms c.args.values.now c.args.unit c.args.side.strict (turned c.args.side.negated c.args.sum.now) c.as_slice-2.result.now (c.as_slice-2.ensures.value ∙ (c.in_ok-coefficients.ensures ∙ ap (read c.args.values.now c.args.side.negated) c.as_slice.ensures ∙ coefficients_are c.args.values.now c.args.side.negated c.args.sum.now)) c.in-Some.factor is.is
    (sym c.in_default-2.is ∙ c.in_ok-terms.ensures ∙ ap (small_terms c.in-Some.factor) same)

pub returns : goal.returns
returns c =
    let is : IsFactor c.as_slice-2.result.now c.in-Some.factor = c.in-Some.ensures.some in
    let same : c.as_slice-3.result.now ≡ c.as_slice-2.result.now = c.as_slice-3.ensures.value ∙ sym c.as_slice-2.ensures.value in
    let k : FitsSigned w128 c.in-Some-whole_constant.constant = search rules in
    rw (to_z-of_z w128 c.in-Some-whole_constant.constant k)
    (made_form c.args.values.now c.args.unit c.args.side.strict (turned c.args.side.negated c.args.sum.now) c.as_slice-2.result.now (c.as_slice-2.ensures.value ∙ (c.in_ok-coefficients.ensures ∙ ap (read c.args.values.now c.args.side.negated) c.as_slice.ensures ∙ coefficients_are c.args.values.now c.args.side.negated c.args.sum.now)) c.in-Some.factor c.signed-constant.result
    c.in-Some-whole_constant.constant c.in-Some-2.terms is
    (c.signed-constant.ensures ∙ sym (constant_is c.args.side.negated c.args.sum.now)) c.in-Some-whole_constant.ensures
    (sym c.in-Some-2.is ∙ c.in_ok-terms.ensures ∙ ap (small_terms c.in-Some.factor) same))
