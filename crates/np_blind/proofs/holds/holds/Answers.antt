use Rattle.std.proofs.Common.{ap, ◌∙◌}
use Rattle.std.proofs.lemmas.Int.{to_z-of_z}
use Rattle.std.specs.Prelude.{int_le, pos, ◌+ℤ◌}
use mir.Syntax.{w128}
use Rattle.np_flat.specs.States.{terms_value}
use Rattle.np_blind.proofs.SubgoalsHold.{fact_holds, not_fact_holds, form_holds}
use Rattle.np_blind.proofs.holds.holds.Goals as goal

pub returns-in-Fact : goal.returns-in-Fact
returns-in-Fact c =
    fact_holds c.args.parts.now c.args.state.now c.args.subgoal c.as_slice.result.now c.index-as_slice-subgoal.result c.as_slice.ensures c.requires.number c.index-as_slice-subgoal.is c.in-Fact.fact c.get.result c.in-Fact.is c.get.ensures

pub returns-in-NotFact : goal.returns-in-NotFact
returns-in-NotFact c =
    not_fact_holds c.args.parts.now c.args.state.now c.args.subgoal c.as_slice.result.now c.index-as_slice-subgoal.result c.as_slice.ensures c.requires.number c.index-as_slice-subgoal.is c.in-NotFact.fact c.get-in-NotFact.result c.in-NotFact.is c.get-in-NotFact.ensures

pub returns-in-Form : goal.returns-in-Form
returns-in-Form c =
    ap (int_le (pos 0)) (to_z-of_z w128 c.value.result (record { sfits = c.value.type_inv }) ∙ c.value.ensures ∙ ap (λ zs. c.in-Form.form.constant +ℤ terms_value zs c.in-Form.form.terms) c.as_slice-in-Form.ensures.value)
    ∙ form_holds c.args.parts.now c.args.state.now c.args.subgoal c.as_slice.result.now c.index-as_slice-subgoal.result c.as_slice.ensures c.requires.number c.index-as_slice-subgoal.is c.in-Form.form c.in-Form.is
