use Rattle.std.proofs.Common.{◌≡◌, ◌∙◌, ap, length, arith}
use Rattle.np_flat.specs.declared.parts.Parts.{Parts}
use Rattle.np_relax.specs.Closed.{on}
use Rattle.np_table.proofs.Pays.{paid_none, paid_step, all_paid}
use Rattle.np_table.proofs.units.units.Goals as goal

pub loop-step-init : goal.loop-step-init
loop-step-init c = paid_none c.args.flat.now c.args.state.now (on c.args.can.now) c.in_ok-units.units.items c.in_ok-units.ensures.count c.in_ok-units.ensures.most

pub loop-step-preserved : goal.loop-step-preserved
loop-step-preserved c =
    let all : c.len-count.result ≡ length c.args.flat.now.steps = c.len-count.ensures ∙ ap (λ (p : Parts). length p.steps) c.parts.ensures.parts in
    paid_step c.args.flat.now c.args.state.now (on c.args.can.now) c.loop-step.units.items c.pay_step.new.units.items c.loop-step.step c.loop-step.invariant (omega arith) c.in_ok-pay_step.ensures

pub returns-clause-units : goal.returns-clause-units
returns-clause-units c =
    let all : c.len-count.result ≡ length c.args.flat.now.steps = c.len-count.ensures ∙ ap (λ (p : Parts). length p.steps) c.parts.ensures.parts in
    all_paid c.args.flat.now c.args.state.now (on c.args.can.now) c.loop-step.units.items c.loop-step.step (omega arith) c.loop-step.invariant
