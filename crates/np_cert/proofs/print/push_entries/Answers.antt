use Rattle.std.proofs.Common.{◌≡◌, ◌++◌, ◌+◌, ◌∷◌, List, [], take, sym, ◌∙◌, ap}
use Rattle.std.specs.List.{flat_map}
use Rattle.std.proofs.lemmas.List.{take_more, flat_map_more}
use Rattle.np_cert.specs.declared.certificate.Entry.{Entry}
use Rattle.np_cert.specs.Layout.{entry_text}
use Rattle.np_cert.proofs.print.push_entries.Goals as goal

pub loop-entry-preserved : goal.loop-entry-preserved
loop-entry-preserved c =
    let before = take c.loop-entry.entry-index c.args.entries.now in
    let more : take (c.loop-entry.entry-index + 1) c.args.entries.now ≡ before ++ c.entry-item.result ∷ [] =
    take_more c.args.entries.now c.loop-entry.entry-index c.entry-item.result c.loop-entry-test.true ∙ ap (λ (e : Entry). before ++ e ∷ []) (sym c.entry-item.is) in
    c.in_ok-push_entry.ensures ∙ ap (λ text. text ++ entry_text c.entry-item.result) c.loop-entry.invariant
    ∙ flat_map_more entry_text c.args.text.now.items before c.entry-item.result ∙ ap (λ (es : List Entry). c.args.text.now.items ++ flat_map entry_text es) (sym more)
