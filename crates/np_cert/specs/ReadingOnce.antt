-- A text has one value at most.
use Rattle.std.specs.Prelude.{◌≡◌, ℕ, List}
use Rattle.np_cert.specs.declared.certificate.Certificate.{Certificate}
use Rattle.np_cert.specs.Text.{Spells}

-- no text spells two certificates
abbrev pub OneValue : Type 0
OneValue = (bytes : List ℕ) (a b : Certificate) → Spells bytes a → Spells bytes b → a ≡ b
