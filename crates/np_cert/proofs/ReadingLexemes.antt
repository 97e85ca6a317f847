-- What a lexer takes, and what it leaves, is what a reader of a certificate reads.
use Rattle.std.proofs.Common.{◌≡◌, ℕ, ◌<◌, ◌≤◌, ◌^◌, ℤ, decimal, ltb, arith, Bool, true, cond, List, [], None, Some, Ok, Err, refl, sym, ap, ◌∙◌}
use Rattle.std.specs.Prelude.{codes}
use Rattle.std.proofs.lemmas.Bool.Decides.{nat_tests}
use Rattle.np_lex.specs.declared.reading.Lexer.{Lexer}
use Rattle.np_lex.specs.declared.token.Kind.TheVariants as kind
use Rattle.np_lex.specs.Tokens.{Item, word, lower, named, numeral}
use Rattle.np_lex.specs.Lexers.{items_left, Takes, Leaves}
use Rattle.np_read.specs.ItemReaders.{Outcome, Reader, and_then, pure, made, number_by}
use Rattle.np_read.proofs.ItemChoices.{either_other}
use Rattle.np_read.proofs.ItemLexing.{number_taken, number_refused, number_missing, first_taken, second_taken}
use Rattle.np_cert.specs.declared.certificate.Limit.{Limit}
use Rattle.np_cert.specs.declared.certificate.Limit.TheVariants.{Number, Absent}
use Rattle.np_cert.specs.Text.{most}
use Rattle.np_cert.specs.ReadingForm.{natural_of, integer_of, natural, integer, limit}
use Rattle.np_cert.proofs.ReadingForms.{other_words}
use Rattle.np_cert.proofs.ReadingNumbers.{natural_decimal, natural_of_lower, integer_of_lower}

-- ---- numbers without a sign

module _ (bound : ℕ) (old new : Lexer) where
  pub natural_missing : Leaves old new (λ found. found.kind ≡ kind.Number) → natural bound (items_left old) ≡ Err (items_left new)
  unfolding natural
  natural_missing leaves = number_missing (natural_of bound) old new leaves

  pub natural_refused : (text : List ℕ) → bound ≤ most → Takes old new (numeral (lower text)) → natural_of bound text ≡ None → natural bound (items_left old) ≡ Err (items_left old)
  unfolding natural
  natural_refused text small takes is = number_refused (natural_of bound) old new (lower text) takes (natural_of_lower bound text small ∙ is)

  pub natural_taken : (text : List ℕ) (n : ℕ) → bound ≤ most → Takes old new (numeral (lower text)) → natural_of bound text ≡ Some n → natural bound (items_left old) ≡ Ok (n, items_left new)
  unfolding natural
  natural_taken text n small takes is = number_taken (natural_of bound) old new (lower text) n takes (natural_of_lower bound text small ∙ is)

  -- a short number, and whether it is below the bound
  module _ (n : ℕ) (small : n < 2 ^ 64) (takes : Takes old new (numeral (decimal n))) where
    pub short_refused : cond (ltb n bound) (Some n) None ≡ None → natural bound (items_left old) ≡ Err (items_left old)
    unfolding natural
    short_refused is = number_refused (natural_of bound) old new (decimal n) takes (natural_decimal bound n small ∙ is)

    pub short_taken : (m : ℕ) → cond (ltb n bound) (Some n) None ≡ Some m → natural bound (items_left old) ≡ Ok (m, items_left new)
    unfolding natural
    short_taken m is = number_taken (natural_of bound) old new (decimal n) m takes (natural_decimal bound n small ∙ is)

-- ---- numbers with or without a sign

module _ (old new : Lexer) where
  pub integer_missing : Leaves old new (λ found. found.kind ≡ kind.Number) → integer (items_left old) ≡ Err (items_left new)
  unfolding integer
  integer_missing leaves = number_missing integer_of old new leaves

  pub integer_refused : (text : List ℕ) → Takes old new (numeral (lower text)) → integer_of text ≡ None → integer (items_left old) ≡ Err (items_left old)
  unfolding integer
  integer_refused text takes is = number_refused integer_of old new (lower text) takes (integer_of_lower text ∙ is)

  pub integer_taken : (text : List ℕ) (v : ℤ) → Takes old new (numeral (lower text)) → integer_of text ≡ Some v → integer (items_left old) ≡ Ok (v, items_left new)
  unfolding integer
  integer_taken text v takes is = number_taken integer_of old new (lower text) v takes (integer_of_lower text ∙ is)

  pub short_integer : (text : List ℕ) (v : ℤ) → Takes old new (numeral text) → integer_of text ≡ Some v → integer (items_left old) ≡ Ok (v, items_left new)
  unfolding integer
  short_integer text v takes is = number_taken integer_of old new text v takes is

-- ---- a number, or none

abbrev limit_number : Reader Limit
limit_number = made (λ n. Number n) (natural most)

limit_nothing : limit_number [] ≡ Err []
unfolding natural number_by
limit_nothing = refl

module _ (old new : Lexer) where
  pub limit_none : Takes old new (named (codes "none")) → limit (items_left old) ≡ Ok (Absent, items_left new)
  unfolding limit
  limit_none takes = first_taken (named (codes "none")) (pure Absent) limit_number old new takes

  module _ (leaves : Leaves old new (λ found. found ≡ named (codes "none"))) where
    -- where the word isn't there, a number is read
    limit_else : limit (items_left old) ≡ limit_number (items_left new)
    unfolding limit
    limit_else = second_taken (named (codes "none")) (pure Absent) limit_number old new limit_nothing leaves

    pub limit_long : (n : ℕ) (rest : List Item) → natural most (items_left new) ≡ Ok (n, rest) → limit (items_left old) ≡ Ok (Number n, rest)
    limit_long n rest is = limit_else ∙ ap (λ (x : Outcome ℕ). and_then x (λ m more. Ok (Number m, more))) is

    pub limit_refused : (rest : List Item) → natural most (items_left new) ≡ Err rest → limit (items_left old) ≡ Err rest
    limit_refused rest is = limit_else ∙ ap (λ (x : Outcome ℕ). and_then x (λ m more. Ok (Number m, more))) is

  -- a short number
  pub limit_taken : (n : ℕ) → n < 2 ^ 64 → Takes old new (numeral (decimal n)) → limit (items_left old) ≡ Ok (Number n, items_left new)
  unfolding limit
  limit_taken n small takes =
      let first : Item = record { piece = word (numeral (decimal n)); place = takes.place } in
      let less : ltb n most ≡ true = grind (arith, nat_tests) in
      let is : natural most (items_left old) ≡ Ok (n, items_left new) = short_taken most old new n small takes n (ap (λ (b : Bool). cond b (Some n) None) less) in
      ap limit takes.items ∙ either_other (named (codes "none")) (pure Absent) limit_number first (items_left new) (other_words (numeral (decimal n)) (named (codes "none")) first.piece refl refl)
      ∙ ap limit_number (sym takes.items) ∙ ap (λ (x : Outcome ℕ). and_then x (λ m rest. Ok (Number m, rest))) is
