use Rattle.std.proofs.Common.{ap, sym, ◌∙◌, subst, Some, get_or}
use Rattle.std.specs.Option.{option_map}
use Rattle.std.proofs.lemmas.Option.{slice_get-get_or}
use Rattle.np_flat.specs.Same.{same_state-Decides}
use Rattle.np_cert.specs.declared.certificate.Entry.{Entry}
use Rattle.np_check.specs.First.{IsFirst}
use Rattle.np_check.proofs.LookUps.{distinct_first}
use Rattle.np_check.proofs.first.FirstEntries.number_near.Goals as goal

pub returns-then-eq : goal.returns-then-eq
returns-then-eq c =
    let entries = c.self.inside.entries.now in
    let n = c.args.guess in
    let d = c.index-self-guess.result in
    let same = (same_state-Decides (get_or entries n d).state c.args.state.now).0 (sym c.eq.ensures ∙ c.if-eq.true) in
    subst (λ es. IsFirst es c.args.state.now 0 n) c.self.view_is
    (distinct_first entries n c.args.state.now (c.self.invariant.once c.if-self.true)
    (ap (option_map (λ (e : Entry). e.state)) (slice_get-get_or entries n d c.if-guess-self.true) ∙ ap Some same))
