use Rattle.std.proofs.Common.{◌≡◌, List, Some, length, get_or, slice_get, refl, ap, sym, ◌∙◌, subst}
use Rattle.std.proofs.lemmas.Option.{slice_get_read}
use Rattle.np_cert.specs.declared.certificate.Entry.{Entry}
use Rattle.np_cert.specs.Valid.{IsRepeated}
use Rattle.np_check.proofs.Faults.{once_first, good_more}
use Rattle.np_check.proofs.check.fault_at.Goals as goal

pub returns : goal.returns
returns c =
    let task = c.args.flat.now in
    let entries = c.args.certificate.now.entries in
    let n = c.args.number in
    let e = c.index-as_slice-number.result in
    let same = c.requires.entries in
    let there : slice_get entries n ≡ Some e =
    slice_get_read entries (length entries) n e refl c.requires.within (subst (λ (es : List Entry). e ≡ get_or es n e) c.as_slice.ensures c.index-as_slice-number.is)
    in
    let there_first : slice_get c.args.first.now n ≡ Some e = ap (λ (es : List Entry). slice_get es n) same ∙ there in
    let once = once_first c.args.first.now n e c.number_of.result there_first c.number_of.ensures c.if-ne.ensures in
    good_more task c.args.certificate.now n e there c.requires.before
    (λ r. once (subst (λ (es : List Entry). IsRepeated es n) (sym same) r))
    (c.in_ok-is_justified.ensures.0 c.if-not-branch.false)
