-- One more part of the bytes is in the writer.
use Rattle.std.proofs.Common.{◌++◌, ◌∙◌, sym, ap, subst, take, rules}
use Rattle.std.specs.Io.KnownBytes.{Appends}
use Rattle.std.proofs.KnownBytes.{Appends-trans}
use Rattle.std.proofs.Math.Seq.{take-add}
use Rattle.std.proofs.lemmas.List.{take_rest}
use Rattle.np_io.proofs.stream.write_whole.Goals as goal

pub loop-preserved : goal.loop-preserved
loop-preserved g c =
    let bytes = c.args.bytes.now in
    let done = c.loop.done in
    let count = c.in_ok-done.field-0 in (
      search rules,
      subst (Appends _ _) (ap (λ rest. take done bytes ++ take count rest) (take_rest bytes done) ∙ sym (take-add done count bytes)) (Appends-trans _ _ _ _ _ c.loop.invariant.1 c.in_ok-done.ensures.bytes),
    )
