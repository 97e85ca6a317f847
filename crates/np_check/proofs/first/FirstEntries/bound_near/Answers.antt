use Rattle.std.proofs.Common.{ap, sym, ◌∙◌, get_or}
use Rattle.std.proofs.lemmas.Option.{get_or_from_slice_get}
use Rattle.np_cert.specs.declared.certificate.Entry.{Entry}
use Rattle.np_check.specs.First.{IsFirst}
use Rattle.np_check.proofs.LookUps.{bound_first, bound_none}
use Rattle.np_check.proofs.first.FirstEntries.bound_near.Goals as goal

pub returns-in-Some : goal.returns-in-Some
returns-in-Some c =
    let n = c.in-Some.number in
    let d = c.index-self-number.result in
    let h : IsFirst c.args.self.now c.args.state.now 0 n = c.in-Some.ensures in
    ap (λ es. (get_or es n d).bound) c.self.view_is
    ∙ (ap (λ (e : Entry). e.bound) (get_or_from_slice_get c.args.self.now n h.entry d h.there)
    ∙ sym (bound_first c.args.self.now c.args.state.now n h.entry h.there h.same h.earlier))

pub returns-in-None : goal.returns-in-None
returns-in-None c = sym (bound_none c.args.self.now c.args.state.now c.in-None.ensures)
