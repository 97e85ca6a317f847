use Rattle.std.proofs.Common.{◌≡◌, ◌<◌, ◌≤◌, All, sym, ◌∙◌, subst, length, Some, None, arith}
use Rattle.std.specs.Result.{OnOk}
use Rattle.std.proofs.lemmas.Result.{on_ok_weaker}
use Rattle.np_relax.specs.Work.{achieved}
use Rattle.np_relax.proofs.Achieved.{achieved_one, achieved_within}
use Rattle.np_relax.proofs.Works.{fired_is}
use Rattle.np_relax.proofs.Watches.{looked, fires_all, done_same, removed_same, watched_place, watched_done, read_there}
use Rattle.np_relax.proofs.reached.fire.Goals as goal

pub returns-in_default-clause-turned : goal.returns-in_default-clause-turned
returns-in_default-clause-turned c =
    done_same c.args.flat.now c.args.removed.now c.args.can.now.items c.args.work.now.items c.args.watched.now.items c.args.step c.requires.watched (read_there c.args.watched.now.items c.args.step c.index.result.now None (subst (λ k. c.args.step < k) (sym c.requires.watched.count) c.requires.step) c.index.ensures c.in_default.is)

pub returns-then-get-clause-turned : goal.returns-then-get-clause-turned
returns-then-get-clause-turned c =
    removed_same c.args.flat.now c.args.removed.now c.args.can.now.items c.args.work.now.items c.args.step c.get.result c.get.ensures c.if-get.true

pub returns-then-place-needs-clause-watched : goal.returns-then-place-needs-clause-watched
returns-then-place-needs-clause-watched c =
    watched_place c.args.flat.now c.args.can.now.items c.args.watched.now.items c.args.step c.first_off-place.result c.requires.watched
    (looked c.args.flat.now c.args.can.now.items c.as_slice.result.now c.args.watched.now.items c.needs-needs.result.now c.args.step c.in-Some.from c.first_off-place.result c.requires.watched
    (read_there c.args.watched.now.items c.args.step c.index.result.now (Some c.in-Some.from) (subst (λ k. c.args.step < k) (sym c.requires.watched.count) c.requires.step) c.index.ensures c.in-Some.is) c.as_slice.ensures.value c.needs-needs.ensures.needs c.first_off-place.ensures.on)

pub turn_on-requires : goal.turn_on-requires
turn_on-requires c =
    let task = c.args.flat.now in
    let n = c.args.step in
    let is : c.as_slice-2.result.now ≡ achieved task n = c.as_slice-2.ensures.value ∙ achieved_one task n c.achieved_in.new.achieved.items c.in_ok-achieved_in.ensures.ascending c.in_ok-achieved_in.ensures.exact in
    subst (λ k. All (λ q. q < k) c.as_slice-2.result.now) (sym c.requires.can) (subst (All (λ q. q < length task.subgoals)) (sym is) (achieved_within task n))

pub returns-clause-turned : goal.returns-clause-turned
returns-clause-turned c =
    let task = c.args.flat.now in
    let n = c.args.step in
    let can = c.args.can.now.items in
    let is : c.as_slice-2.result.now ≡ achieved task n = c.as_slice-2.ensures.value ∙ achieved_one task n c.achieved_in.new.achieved.items c.in_ok-achieved_in.ensures.ascending c.in_ok-achieved_in.ensures.exact in
    let end : length c.needs-needs.result.now ≤ c.first_off-place.result = omega (arith, c.if-place-needs.false) in
    let fires = fires_all task c.args.removed.now can c.needs-needs.result.now n c.first_off-place.result c.get.result c.get.ensures c.if-get.false c.needs-needs.ensures.needs end
    (looked task can c.as_slice.result.now c.args.watched.now.items c.needs-needs.result.now n c.in-Some.from c.first_off-place.result c.requires.watched
    (read_there c.args.watched.now.items c.args.step c.index.result.now (Some c.in-Some.from) (subst (λ k. c.args.step < k) (sym c.requires.watched.count) c.requires.step) c.index.ensures c.in-Some.is) c.as_slice.ensures.value c.needs-needs.ensures.needs c.first_off-place.ensures.on) in
    subst (λ z. OnOk c.turn_on.result ((c.turn_on.new.can.items, c.turn_on.new.work.items) ≡ z)) (fired_is task c.args.removed.now can c.args.work.now.items c.as_slice-2.result.now n is fires) c.turn_on.ensures

pub returns-clause-watched : goal.returns-clause-watched
returns-clause-watched c =
    let task = c.args.flat.now in
    let n = c.args.step in
    let is : c.as_slice-2.result.now ≡ achieved task n = c.as_slice-2.ensures.value ∙ achieved_one task n c.achieved_in.new.achieved.items c.in_ok-achieved_in.ensures.ascending c.in_ok-achieved_in.ensures.exact in
    on_ok_weaker c.turn_on.result
    (watched_done task c.args.can.now.items c.args.work.now.items c.as_slice-2.result.now c.args.watched.now.items n (c.turn_on.new.can.items, c.turn_on.new.work.items) c.requires.can is c.requires.watched) c.turn_on.ensures
