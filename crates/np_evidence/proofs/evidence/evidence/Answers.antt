use Rattle.std.proofs.Common.{◌<◌, ◌≤◌, length, arith}
use Rattle.np_frac.specs.Fractions.{whole}
use Rattle.np_state.specs.States.{value_of}
use Rattle.np_evidence.proofs.Texts.{text_read, text_ended}
use Rattle.np_evidence.proofs.evidence.evidence.Goals as goal

pub loop-number-preserved : goal.loop-number-preserved
loop-number-preserved c =
    let nodes = c.args.tree.now.nodes in
    let within : c.loop-number.number < length nodes.items = omega (arith, nodes.ok) in
    text_read c.args.claim c.args.tree.now.states nodes.items c.loop-number.number c.loop-number.text.items c.add.new.text.items
    c.loop-number.invariant (value_of whole c.get.result.now) c.index-node.result.now c.get.ensures within c.index-node.ensures c.in_ok-add.ensures

pub returns : goal.returns
returns c =
    let states = c.args.tree.now.states in
    let nodes = c.args.tree.now.nodes.items in
    let number = c.loop-number.number in
    let no_node : length nodes ≤ number = omega (arith, c.loop-number-test.false, c.len-number-end.ensures) in
    let no_state : length states ≤ number = omega (arith, no_node, c.requires.one_node) in
    text_ended c.args.claim states nodes number c.loop-number.text.items c.push_end.new.text.items c.loop-number.invariant no_node no_state c.in_ok-push_end.ensures
