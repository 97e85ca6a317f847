use Rattle.std.proofs.Common.{◌≡◌, ◌-◌, ◌∙◌, sym, ap, subst, true, false, get_or, arith, Err}
use Rattle.std.specs.Int.{◌∣◌}
use Rattle.std.specs.List.{list_any}
use Rattle.np_model.specs.Ground.{same_term}
use Rattle.np_bind.specs.declared.bound.Spot.TheVariants.{Step}
use Rattle.np_scale.specs.declared.fault.ScaleFault.TheVariants.{NumberWide}
use Rattle.np_scale.specs.Code.{is_small_change}
use Rattle.np_scale.proofs.Amounts.{amounts_wide}
use Rattle.np_scale.proofs.step.scaled_changes.Goals as goal

pub put_change-requires-clause-multiple : goal.put_change-requires-clause-multiple
put_change-requires-clause-multiple c =
    let at = c.index-as_slice-place.is ∙ ap (λ cs. get_or cs (c.loop-place.place - 1) c.index-as_slice-place.result) c.as_slice.ensures in
    subst (λ x. list_any (same_term x.0) c.args.tables.now.values ≡ true → x.1.den ∣ c.args.tables.now.unit) (sym at)
    (c.requires.changes (c.loop-place.place - 1) c.index-as_slice-place.result (omega (arith, c.loop-place-test.true, c.loop-place.auto.place, c.len-place.ensures)))

pub returns-then-not-branch : goal.returns-then-not-branch
returns-then-not-branch c =
    let at = c.index-as_slice-place.is ∙ ap (λ cs. get_or cs (c.loop-place.place - 1) c.index-as_slice-place.result) c.as_slice.ensures in
    let wide : is_small_change c.args.tables.now.values c.args.tables.now.unit c.index-as_slice-place.result ≡ false = sym c.in_ok-put_change.ensures.small ∙ c.if-not-branch.true in
    amounts_wide c.args.tables.now.values c.args.tables.now.unit c.args.step.now c.loop-place.place c.index-as_slice-place.result c.loop-place-test.true
    (omega (arith, c.loop-place.auto.place, c.len-place.ensures)) at wide
    ∙ ap (λ s. Err (NumberWide (Step s))) (sym c.in_ok-copy.ensures)
