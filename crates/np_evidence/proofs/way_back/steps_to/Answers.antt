use Rattle.std.proofs.Common.{◌≡◌, ◌+◌, ◌-◌, length, slice_get, [], Some, reverse, refl, sym, ap, ◌∙◌, subst, arith}
use Rattle.std.proofs.lemmas.List.{append-nil, reverse-reverse}
use Rattle.std.proofs.lemmas.Option.{slice_get_read}
use Rattle.np_search.specs.declared.tree.Node.{Node}
use Rattle.np_search.specs.Outcomes.{IsWayBack}
use Rattle.np_evidence.specs.Searches.{HasWayBack}
use Rattle.np_evidence.proofs.WaysBack.{way_within, IsGathered, gathered_none, gathered_more, way_less, way_ended}
use Rattle.np_evidence.proofs.way_back.steps_to.Goals.{else-loop-test, then-loop-test+in_default}
use Rattle.np_evidence.proofs.way_back.steps_to.Goals as goal

pub loop-init : goal.loop-init
loop-init c =
    let nodes = c.args.nodes.now in
    let all : c.args.most ≡ c.args.most - 0 = omega arith in
    record {
      within = way_within nodes c.args.number c.args.most c.requires;
      left = subst (HasWayBack nodes c.args.number) all c.requires;
      gathered = subst (IsGathered nodes c.args.number c.args.number) (sym c.new-steps.ensures.items) (gathered_none nodes c.args.number);
    }

pub loop-preserved : goal.loop-preserved
loop-preserved c =
    let nodes = c.args.nodes.now in
    let inv = c.loop.invariant in
    let node = c.index-nodes-at.result in
    let found : slice_get nodes c.loop.at ≡ Some node = slice_get_read nodes (length nodes) c.loop.at node refl inv.within c.index-nodes-at.is in
    let link : node.parent ≡ Some (c.in-Some.parent, c.in-Some.step) = ap (λ (n : Node). n.parent) c.index-nodes-at.is ∙ c.in-Some.is in
    let less : (c.args.most - c.loop.counter) - 1 ≡ c.args.most - (c.loop.counter + 1) = omega arith in
    let left : HasWayBack nodes c.in-Some.parent (c.args.most - (c.loop.counter + 1)) =
    subst (HasWayBack nodes c.in-Some.parent) less (way_less nodes c.loop.at c.in-Some.parent c.in-Some.step (c.args.most - c.loop.counter) node found link inv.left) in
    record {
      within = way_within nodes c.in-Some.parent (c.args.most - (c.loop.counter + 1)) left;
      left = left;
      gathered =
          subst (IsGathered nodes c.args.number c.in-Some.parent) (sym c.in_ok-push.ensures.items)
          (gathered_more nodes c.args.number c.loop.at c.in-Some.parent c.in-Some.step c.loop.steps.items node found link inv.gathered);
    }

pub returns : goal.returns
returns c =
    let nodes = c.args.nodes.now in
    let inv = c.loop.invariant in
    let done : IsWayBack nodes c.loop.at [] = elim c.loop-test.branch [
      | else-loop-test w ↦ let past = w.loop-test.false in way_ended nodes c.loop.at (c.args.most - c.loop.counter) (omega (arith, past)) inv.left
      | then-loop-test+in_default w ↦
          let node = w.index-nodes-at.result in
          (node, slice_get_read nodes (length nodes) c.loop.at node refl inv.within w.index-nodes-at.is, ap (λ (n : Node). n.parent) w.index-nodes-at.is ∙ w.in_default.is)
    ] in
    subst (λ steps. IsWayBack nodes c.args.number steps)
    (append-nil c.loop.steps.items ∙ sym (reverse-reverse c.loop.steps.items) ∙ ap reverse (sym c.reverse.ensures.items))
    (inv.gathered.whole [] done)
