-- Whole texts: what is read of a text is a certificate that it spells, what it spells is read, and where reading stops the first fault is.
use Rattle.std.proofs.Common.{◌≡◌, ℕ, List, [], Result, Ok, Err, subst, ap, ◌∙◌}
use Rattle.std.specs.Prelude.{IfOk, IsErrOf}
use Rattle.np_lex.specs.Tokens.{Item, items_of}
use Rattle.np_lex.specs.declared.token.Place.{Place}
use Rattle.np_read.specs.Faults.{IsFirstFault}
use Rattle.np_read.specs.ItemReaders.{Outcome, and_then, at_end, whole}
use Rattle.np_read.proofs.FirstFaults.{first_fault, text_sound, text_only, text_refused}
use Rattle.np_cert.specs.declared.certificate.Certificate.{Certificate}
use Rattle.np_cert.specs.declared.read.fault.CertFault.{CertFault}
use Rattle.np_cert.specs.declared.read.fault.CertFault.TheVariants.{At}
use Rattle.np_cert.specs.Text.{IsWritten, Spells}
use Rattle.np_cert.specs.Text as printed
use Rattle.np_cert.specs.ReadingAnswers.{Answers}
use Rattle.np_cert.specs.ReadingOnce.{OneValue}
use Rattle.np_cert.specs.ReadingForm as form
use Rattle.np_cert.proofs.ReadingStarts.{good_certificate}
use Rattle.np_cert.proofs.ReadingForms.{reads_certificate}

-- ---- to the end

module _ (items rest : List Item) where
  abbrev then_end : Certificate → List Item → Outcome Certificate
  then_end c others = and_then (at_end others) (λ _ more. Ok (c, more))

  pub ended_is : (c : Certificate) → form.certificate items ≡ Ok (c, rest) → at_end rest ≡ Ok (tt, []) → whole form.certificate items ≡ Ok (c, [])
  ended_is c is end = ap (λ (x : Outcome Certificate). and_then x then_end) is ∙ ap (λ (x : Outcome (Unit {0})). and_then x (λ _ more. Ok (c, more))) end

  pub followed_is : (c : Certificate) → form.certificate items ≡ Ok (c, rest) → at_end rest ≡ Err rest → whole form.certificate items ≡ Err rest
  followed_is c is end = ap (λ (x : Outcome Certificate). and_then x then_end) is ∙ ap (λ (x : Outcome (Unit {0})). and_then x (λ _ more. Ok (c, more))) end

  pub stopped_is : form.certificate items ≡ Err rest → whole form.certificate items ≡ Err rest
  stopped_is is = ap (λ (x : Outcome Certificate). and_then x then_end) is

-- ---- what is answered

-- a text spells one certificate at most
pub one_certificate : OneValue
one_certificate text a b h k = text_only reads_certificate text a b h.written h.lexemes_are k.written k.lexemes_are

module _ (text : List ℕ) where
  abbrev read : Outcome Certificate
  read = whole form.certificate (items_of text)

  spelled : (c : Certificate) → Answers (Ok c) read → Spells text c
  spelled c h = let said = text_sound reads_certificate text c h.0 h.1 in record { written = said.0; lexemes_are = said.1 }

  pub given_spelled : (r : Result Certificate CertFault) → Answers r read → IfOk r (λ c. Spells text c)
  given_spelled (Ok c) h = spelled c h
  given_spelled (Err fault) h = tt

  pub given_only : (r : Result Certificate CertFault) → Answers r read → IfOk r (λ c. (other : Certificate) → Spells text other → other ≡ c)
  given_only (Ok c) h = λ other spells. one_certificate text other c spells (spelled c h)
  given_only (Err fault) h = tt

  module _ (r : Result Certificate CertFault) (answers : Answers r read) (place : Place) (is : IsErrOf r (At place)) where
    stopped : Answers (Err (At place)) read
    stopped = subst (λ (s : Result Certificate CertFault). Answers s read) is answers

    pub nothing_spelled : (c : Certificate) → Spells text c → ⊥
    nothing_spelled c h = text_refused reads_certificate text stopped.0 stopped.1 c h.written h.lexemes_are

    pub fault_is_first : IsFirstFault IsWritten printed.certificate (items_of text) place
    fault_is_first = first_fault good_certificate reads_certificate (items_of text) stopped.0 place stopped.1 stopped.2
