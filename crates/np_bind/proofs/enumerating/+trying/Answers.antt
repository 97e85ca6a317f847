use Rattle.std.proofs.Common.{◌∙◌, ap, arith, rules, [], ◌∷◌, ◌++◌, take, add-one}
use Rattle.std.specs.Prelude.{slice_index}
use Rattle.std.proofs.lemmas.Result.{err_from_is_err_and}
use Rattle.np_bind.specs.Trying.{choices, begun, kept_with}
use Rattle.np_bind.proofs.Early.{left_on, left_begun, none_kept}
use Rattle.np_bind.proofs.Trying.{tries_on, tries_fault, refuse_by, back_to}
use Rattle.np_bind.proofs.enumerating.+trying.Goals as goal

pub try_all-try_lists-requires : goal.try_all-try_lists-requires
try_all-try_lists-requires t c =
    let is = rw c.in-Some.is at c.in_ok-look.ensures in
    (search rules, left_on c.args.trial.now.task c.args.trial.now.values c.args.objects.now.items c.args.trial.now.action.needs c.args.left.now c.in-Some.left.now c.requires is)

pub try_all-returns-in-None-clause-kept : goal.try_all-returns-in-None-clause-kept
try_all-returns-in-None-clause-kept t c =
    let is = rw c.in-None.is at c.in_ok-look.ensures in
    none_kept c.args.trial.now c.args.objects.now.items c.args.left.now c.args.kept (choices c.args.lists.now) c.requires is

pub try_lists-returns-in_err-kept-clause-kept : goal.try_lists-returns-in_err-kept-clause-kept
try_lists-returns-in_err-kept-clause-kept t c =
    let p = err_from_is_err_and c.from_residual.result c.from_residual.ensures.1 in
    rw (p.1, p.2) (refuse_by c.in_err-kept.field-0.0
    (kept_with c.args.trial.now c.loop-object.kept (begun (c.loop-object.objects.items ++ slice_index c.as_slice-object-items.result.now c.loop-object.object-index ∷ []) (choices c.in-Some.rest.now)))
    (kept_with c.args.trial.now c.args.kept (begun c.args.objects.now.items (choices c.args.lists.now)))
    (λ n is. c.loop-object.invariant.0
    ∙ tries_fault c.args.trial.now c.args.objects.now.items c.loop-object.objects.items c.as_slice-object-items.result.now c.in-Some.rest.now c.loop-object.object-index c.loop-object.kept n
    c.loop-object-test.true c.loop-object.invariant.1 is)
    c.in_err-kept.ensures.kept)

pub try_lists-loop-object-preserved : goal.try_lists-loop-object-preserved
try_lists-loop-object-preserved t c =
    rw add-one (
      c.loop-object.invariant.0
          ∙ tries_on c.args.trial.now c.args.objects.now.items c.loop-object.objects.items c.as_slice-object-items.result.now c.in-Some.rest.now c.loop-object.object-index c.loop-object.kept c.in_ok-kept.kept
          c.loop-object-test.true c.loop-object.invariant.1 c.in_ok-kept.ensures.kept,
      c.in_ok-kept.ensures.objects ∙ c.loop-object.invariant.1,
    )

pub try_object-try_all-requires : goal.try_object-try_all-requires
try_object-try_all-requires t c =
    let more = rw c.in_ok-push.ensures.ok at c.in_ok-lists.ensures.more in (
      omega (arith, c.in_ok-lists.ensures.shorter),
      left_begun c.args.trial.now.task c.args.trial.now.values c.args.objects.now.items c.put_single.new.objects.items c.args.trial.now.action.needs c.args.left.now
          (back_to c.args.objects.now.items c.args.object c.put_single.new.objects.items more) c.requires,
    )

pub try_object-returns-clause-objects : goal.try_object-returns-clause-objects
try_object-returns-clause-objects t c =
    let more = rw c.in_ok-push.ensures.ok at c.in_ok-lists.ensures.more in
    c.truncate.ensures.items
    ∙ ap (take c.len-count.result) c.in_ok-kept.ensures.objects
    ∙ ap (λ n. take n c.put_single.new.objects.items) c.len-count.ensures.value
    ∙ back_to c.args.objects.now.items c.args.object c.put_single.new.objects.items more
