use Rattle.std.proofs.Common.{◌∙◌, ◌++◌, ◌∷◌, [], ap, rules}
use Rattle.std.specs.Prelude.{FitsSigned}
use Rattle.std.specs.Int.{w128}
use Rattle.std.proofs.lemmas.Int.{to_z-of_z}
use Rattle.np_scale.proofs.Scalings.{value_whole, value_more, value_fault, values_read}
use Rattle.np_scale.proofs.scaling.scaled_starts.Goals as goal

pub scaled-requires-clause-multiple : goal.scaled-requires-clause-multiple
scaled-requires-clause-multiple c =
    value_whole c.args.tables.now.values c.args.tables.now.unit c.args.starts.now c.as_slice-term-items.result.now c.loop-term.term-index c.term-item.result c.start_of.result c.loop-term-test.true
    c.as_slice-term-items.ensures c.requires.starts c.term-item.is c.start_of.ensures

pub returns-in_default : goal.returns-in_default
returns-in_default c =
    value_fault c.args.tables.now.values c.args.tables.now.unit c.args.starts.now c.as_slice-term-items.result.now c.loop-term.term-index c.term-item.result c.start_of.result c.in_ok-copy.field-0
    c.loop-term-test.true c.as_slice-term-items.ensures c.term-item.is c.start_of.ensures c.in_default.ensures c.loop-term.invariant.passed c.in_ok-copy.ensures

pub loop-term-preserved : goal.loop-term-preserved
loop-term-preserved c =
    let fits : FitsSigned w128 c.in-Some.value = search rules in
    let more = value_more c.args.tables.now.unit c.args.starts.now c.as_slice-term-items.result.now c.loop-term.term-index c.term-item.result c.start_of.result c.in-Some.value c.loop-term.values c.push.new.self
    c.loop-term-test.true c.term-item.is c.start_of.ensures c.in-Some.ensures (c.in_ok-push.ensures.ok ∙ ap (λ n. c.loop-term.values ++ n ∷ []) (to_z-of_z w128 c.in-Some.value fits)) c.loop-term.invariant.passed
    c.loop-term.invariant.values in
    record { passed = more.0; values = more.1 }

pub returns : goal.returns
returns c =
    values_read c.args.tables.now.values c.args.tables.now.unit c.args.starts.now c.as_slice-term-items.result.now c.loop-term.term-index c.loop-term.values c.loop-term-test.false
    c.as_slice-term-items.ensures c.loop-term.invariant.passed c.loop-term.invariant.values
