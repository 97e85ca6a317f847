use Rattle.std.proofs.Common.{rules, ◌≡◌, List, ℕ, sym, subst}
use Rattle.np_cert.specs.Text.{Spells}
use Rattle.np_cert.specs.Layout.{certificate_text}
use Rattle.np_cert.proofs.Printing.{certificate_text_spells}
use Rattle.np_cert.proofs.print.print_certificate.Goals as goal

pub returns-clause-read_back : goal.returns-clause-read_back
returns-clause-read_back c written =
    let same : c.push_end.new.text.items ≡ certificate_text c.args.certificate.now = search rules in
    subst (λ (bytes : List ℕ). Spells bytes c.args.certificate.now) (sym same) (certificate_text_spells c.args.certificate.now written)
