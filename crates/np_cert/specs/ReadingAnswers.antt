-- What reading a whole certificate answers, beside what its reader gives.
use Rattle.std.specs.Prelude.{◌≡◌, List, Result, Ok, Err, Some}
use Rattle.np_lex.specs.Tokens.{Item, first_place}
use Rattle.np_read.specs.ItemReaders.{Outcome}
use Rattle.np_cert.specs.declared.certificate.Certificate.{Certificate}
use Rattle.np_cert.specs.declared.read.fault.CertFault.{CertFault}
use Rattle.np_cert.specs.declared.read.fault.CertFault.TheVariants.{At, Memory}

-- the answer is what is read, or the place at which reading stops; where memory ran out, nothing is said
abbrev pub Answers : Result Certificate CertFault → Outcome Certificate → Type 0
Answers (Ok certificate) read = (rest : List Item) × (read ≡ Ok (certificate, rest))
Answers (Err (At place)) read = (rest : List Item) × (read ≡ Err rest) × (first_place rest ≡ Some place)
Answers (Err Memory) read = Unit {0}
