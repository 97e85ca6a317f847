use Rattle.np_cert.proofs.ReadingTexts.{given_spelled, given_only, nothing_spelled, fault_is_first}
use Rattle.np_cert.proofs.read.read_certificate.Goals as goal

pub returns-clause-spelled : goal.returns-clause-spelled
returns-clause-spelled c = given_spelled c.args.bytes.now c.whole_certificate.result c.whole_certificate.ensures

pub returns-clause-only : goal.returns-clause-only
returns-clause-only c = given_only c.args.bytes.now c.whole_certificate.result c.whole_certificate.ensures

pub returns-clause-refused : goal.returns-clause-refused
returns-clause-refused c = nothing_spelled c.args.bytes.now c.whole_certificate.result c.whole_certificate.ensures

pub returns-clause-fault : goal.returns-clause-fault
returns-clause-fault c = fault_is_first c.args.bytes.now c.whole_certificate.result c.whole_certificate.ensures
