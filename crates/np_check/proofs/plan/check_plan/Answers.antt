use Rattle.std.proofs.Common.{◌≡◌, ◌+◌, ◌++◌, ◌∷◌, [], Bool, Some, length, slice_get, take, refl, sym, ap, ◌∙◌, subst}
use Rattle.std.proofs.lemmas.List.{take_more}
use Rattle.std.proofs.lemmas.Option.{slice_get_read}
use Rattle.np_model.specs.declared.task.Step.{Step}
use Rattle.np_check.specs.Walks.{IsTaken}
use Rattle.np_check.proofs.PlanRuns.{few_before, ready, small_ready, goes_on, stuck_is}
use Rattle.np_check.proofs.plan.check_plan.Goals as goal

pub take-requires-clause-ready : goal.take-requires-clause-ready
take-requires-clause-ready c =
    ready c.args.flat.now (take c.loop-number.number c.args.steps.now) c.loop-number.walk c.parts.ensures.kept (few_before c.args.steps.now c.loop-number.number c.requires) c.loop-number.invariant

pub returns-then-not-branch : goal.returns-then-not-branch
returns-then-not-branch c =
    let steps = c.args.steps.now in
    let n = c.loop-number.number in
    let step = c.index-steps-number.result in
    let there : slice_get steps n ≡ Some step = slice_get_read steps (length steps) n step refl c.loop-number-test.true c.index-steps-number.is in
    stuck_is c.args.flat.now steps n step c.loop-number.walk c.loop-number.invariant there
    (subst (λ (b : Bool). IsTaken c.args.flat.now step c.loop-number.walk c.take.new.self b) c.if-not-branch.true c.in_ok-take.ensures)

pub loop-number-preserved : goal.loop-number-preserved
loop-number-preserved c =
    let steps = c.args.steps.now in
    let n = c.loop-number.number in
    let step = c.index-steps-number.result in
    let one : take (n + 1) steps ≡ take n steps ++ step ∷ [] = take_more steps n step c.loop-number-test.true ∙ ap (λ (s : Step). take n steps ++ s ∷ []) (sym c.index-steps-number.is) in
    goes_on c.args.flat.now (take n steps) (take (n + 1) steps) step c.loop-number.walk c.take.new.self one c.loop-number.invariant
    (subst (λ (b : Bool). IsTaken c.args.flat.now step c.loop-number.walk c.take.new.self b) c.if-not-branch.false c.in_ok-take.ensures)

pub is_goal-requires-clause-state : goal.is_goal-requires-clause-state
is_goal-requires-clause-state c =
    (ready c.args.flat.now (take c.loop-number.number c.args.steps.now) c.loop-number.walk c.parts.ensures.kept (few_before c.args.steps.now c.loop-number.number c.requires) c.loop-number.invariant).state

pub is_goal-requires-clause-small : goal.is_goal-requires-clause-small
is_goal-requires-clause-small c =
    small_ready c.args.flat.now c.loop-number.walk
    (ready c.args.flat.now (take c.loop-number.number c.args.steps.now) c.loop-number.walk c.parts.ensures.kept (few_before c.args.steps.now c.loop-number.number c.requires) c.loop-number.invariant)
