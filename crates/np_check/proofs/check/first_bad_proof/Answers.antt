use Rattle.std.proofs.Common.{◌<◌, get_or, arith}
use Rattle.std.proofs.lemmas.Option.{slice_get-get_or}
use Rattle.np_check.proofs.check.first_bad_proof.Goals as goal

pub returns : goal.returns
returns c k d l =
    let before : k < c.loop-number.number = omega arith in
    c.loop-number.invariant k (get_or c.args.proofs.now k d) before (slice_get-get_or c.args.proofs.now k d l)
