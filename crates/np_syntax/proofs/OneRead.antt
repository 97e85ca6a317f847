-- Of one text one value is read.
use Rattle.std.proofs.Common.{◌≡◌, ℕ, List, [], Result, Ok, Err, IfOk, sym, ap, subst, ◌∙◌}
use Rattle.np_lex.specs.Tokens.{Item, items_of}
use Rattle.np_read.specs.ItemReaders.{Outcome, Reader, whole}
use Rattle.np_words.specs.declared.fault.ReadFault.{ReadFault}
use Rattle.np_words.specs.Texts.{IsSettled}
use Rattle.np_syntax.specs.declared.domain.Domain.{Domain}
use Rattle.np_syntax.specs.ActionForm.{domain}
use Rattle.np_syntax.specs.Domains.{IsRead}

-- the value of an outcome, or else this one
abbrev value_or : {A : Type 0} → A → Outcome A → A
value_or a (Ok x) = x.0
value_or a (Err rest) = a

module _ {A : Type 0} (reader : Reader A) (items : List Item) (a : A) (read : whole reader items ≡ Ok (a, [])) where
  -- what is answered is what was read
  pub value_read : (r : Result A ReadFault) → IsSettled items a r → IfOk r (λ b. whole reader items ≡ Ok (b, []))
  value_read (Ok b) h = subst (λ (c : A). whole reader items ≡ Ok (c, [])) (sym h.0) read
  value_read (Err fault) h = tt

  pub one_value : (b : A) → whole reader items ≡ Ok (b, []) → a ≡ b
  one_value b other = ap (value_or a) (sym read ∙ other)

pub one_read : (bytes : List ℕ) (d e : Domain) → IsRead bytes d → IsRead bytes e → d ≡ e
one_read bytes d e first second = one_value domain (items_of bytes) d first e second
