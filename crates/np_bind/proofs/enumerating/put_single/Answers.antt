use Rattle.std.proofs.Common.{◌∙◌, sym, ap, suc, take, drop, length, add-one}
use Rattle.std.specs.Prelude.{slice_index}
use Rattle.np_bind.specs.Trying.{choices, begun}
use Rattle.np_bind.proofs.Trying.{single_more, front_more}
use Rattle.np_bind.proofs.enumerating.put_single.Goals as goal

pub loop-place-preserved : goal.loop-place-preserved
loop-place-preserved c =
    let o = slice_index c.as_slice-list.result.now 0 in
    rw add-one (
      c.loop-place.invariant.0
          ∙ single_more c.loop-place.objects.items c.args.lists.now c.loop-place.place c.index-lists-place.result o c.loop-place-test.true c.index-lists-place.is
          (ap length (sym c.as_slice-list.ensures) ∙ c.if-list-ne1.false) (ap (λ xs. slice_index xs 0) c.as_slice-list.ensures)
          ∙ ap (λ xs. begun xs (choices (drop (suc c.loop-place.place) c.args.lists.now))) (sym c.in_ok-push.ensures.ok),
      ap (take (length c.args.objects.now.items)) c.in_ok-push.ensures.ok ∙ front_more c.args.objects.now.items c.loop-place.objects.items o c.loop-place.invariant.1,
    )
