use Rattle.np_cert.proofs.ReadingTexts.{one_certificate}
use Rattle.np_cert.proofs.laws.one_value.Goals as goal

pub returns : goal.returns
returns c = one_certificate
