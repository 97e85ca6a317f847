use Rattle.std.proofs.Common.{◌≡◌, ◌∙◌, ap, pos, ◌*ℤ◌, rules}
use Rattle.std.specs.Prelude.{FitsSigned}
use Rattle.std.specs.Int.{w128}
use Rattle.std.proofs.lemmas.Int.{to_z-of_z}
use Rattle.np_frac.specs.Fractions.{whole}
use Rattle.np_scale.specs.Code.{sign_of, IsFirst}
use Rattle.np_scale.proofs.Fitted.{factor_some_case, factor_none_case}
use Rattle.np_scale.proofs.form.factor_of.Goals as goal

pub returns-clause-some : goal.returns-clause-some
returns-clause-some c =
    let f : FitsSigned w128 c.with_sign.result = search rules in
    let g : FitsSigned w128 c.num.result = search rules in
    let is : IsFirst c.in-Some.field-0.now.1 c.args.coefficients.now = search rules in
    let ew : c.in_ok-whole.whole ≡ whole (sign_of c.in-Some.field-0.now.1.num *ℤ pos c.in_ok-lcm.lcm) =
    c.in_ok-whole.ensures.value ∙ ap whole (to_z-of_z w128 c.with_sign.result f ∙ c.with_sign.ensures ∙ ap (λ n. sign_of n *ℤ pos c.in_ok-lcm.lcm) (to_z-of_z w128 c.num.result g ∙ c.num.ensures.value)) in
    factor_some_case c.in-Some.field-0.now.1 c.args.coefficients.now c.in_ok-whole.whole c.in_ok-lcm.lcm c.div.result is c.requires c.in_ok-lcm.ensures.some ew c.div.ensures.value c.div.ensures.fits

pub returns-clause-none : goal.returns-clause-none
returns-clause-none c =
    let f : FitsSigned w128 c.with_sign.result = search rules in
    let g : FitsSigned w128 c.num.result = search rules in
    let is : IsFirst c.in-Some.field-0.now.1 c.args.coefficients.now = search rules in
    let ew : c.in_ok-whole.whole ≡ whole (sign_of c.in-Some.field-0.now.1.num *ℤ pos c.in_ok-lcm.lcm) =
    c.in_ok-whole.ensures.value ∙ ap whole (to_z-of_z w128 c.with_sign.result f ∙ c.with_sign.ensures ∙ ap (λ n. sign_of n *ℤ pos c.in_ok-lcm.lcm) (to_z-of_z w128 c.num.result g ∙ c.num.ensures.value)) in
    λ none. factor_none_case c.in-Some.field-0.now.1 c.args.coefficients.now c.in_ok-whole.whole c.in_ok-lcm.lcm c.div.result is c.requires c.in_ok-lcm.ensures.some ew c.div.ensures.fits none
