-- What a lexer takes is read as a word.
use Rattle.std.proofs.Common.{◌≡◌, ℕ, ◌≤◌, Bool, true, false, not, ◌&&◌, cond, List, [], ◌∷◌, length, Option, None, Some, Result, Ok, Err, refl, sym, ap, subst, ◌∙◌, arith}
use Rattle.std.specs.Prelude.{IfOk, IfErr}
use Rattle.std.specs.Char.{to_ascii_lowercase}
use Rattle.std.specs.List.{list_all, slice_range}
use Rattle.std.proofs.lemmas.List.{take_rest}
use Rattle.std.specs.Str.{bytes_eq}
use Rattle.std.proofs.lemmas.Bool.Decides.{nat_tests}
use Rattle.std.proofs.lemmas.Slice.Eq.{bytes_eq-Decides}
use Rattle.std.proofs.lemmas.Str.Ascii.{lowercase-lowercase}
use Rattle.np_lex.specs.declared.reading.Lexer.{Lexer}
use Rattle.np_lex.specs.declared.token.Kind.{Kind}
use Rattle.np_lex.specs.declared.token.Kind.TheVariants.{Name, Variable, Keyword}
use Rattle.np_lex.specs.declared.token.Place.{Place}
use Rattle.np_lex.specs.FirstToken.{is_letter, is_name_byte}
use Rattle.np_lex.specs.LongestToken.{is_name, Follows}
use Rattle.np_lex.specs.Lexers.{items_left, Leaves}
use Rattle.np_lex.specs.Tokens.{Lexeme, Item, lower}
use Rattle.np_model.specs.Names.{is_reserved}
use Rattle.np_read.specs.declared.fault.ReadFault.{ReadFault}
use Rattle.np_read.specs.declared.fault.ReadFault.TheVariants.{Next, Memory}
use Rattle.np_read.specs.ItemAnswers.{Gives, Stops}
use Rattle.np_read.specs.Same.{same_kind}
use Rattle.np_read.specs.ItemReaders.{Outcome, and_then, pure, made}
use Rattle.np_read.specs.Takes.{TakesAt, lexeme}
use Rattle.np_read.proofs.Same.{same_kind_true}
use Rattle.np_read.proofs.PlacedLexing.{token_taken, token_refused, token_missing, first_by, second_by}
use Rattle.np_read.proofs.PlacedParts.{token_nothing, made_refuses}
use Rattle.np_words.specs.declared.word.Word.{Word}
use Rattle.np_words.specs.declared.word.Ident.TheVariants as ident
use Rattle.np_words.specs.Written.{is_small_name, is_free_name}
use Rattle.np_words.specs.ReadingForm.{word_if, name_of, word_after, variable_of, requirement_of, name, variable, requirement, identifier}

-- ---- small letters

letter_lower : (b : ℕ) → is_letter (to_ascii_lowercase b) ≡ is_letter b
letter_lower b = grind (arith, nat_tests)

name_byte_lower : (b : ℕ) → is_name_byte (to_ascii_lowercase b) ≡ is_name_byte b
name_byte_lower b = grind (arith, nat_tests)

name_bytes_lower : (bs : List ℕ) → list_all is_name_byte (lower bs) ≡ list_all is_name_byte bs
name_bytes_lower [] = refl
name_bytes_lower (b ∷ bs) = ap (λ (x : Bool). x && list_all is_name_byte (lower bs)) (name_byte_lower b) ∙ ap (λ (x : Bool). is_name_byte b && x) (name_bytes_lower bs)

name_lower : (bs : List ℕ) → is_name (lower bs) ≡ is_name bs
name_lower [] = refl
name_lower (b ∷ bs) = ap (λ (x : Bool). x && list_all is_name_byte (lower bs)) (letter_lower b) ∙ ap (λ (x : Bool). is_letter b && x) (name_bytes_lower bs)

lower-lower : (bs : List ℕ) → lower (lower bs) ≡ lower bs
lower-lower [] = refl
lower-lower (b ∷ bs) = ap (λ (c : ℕ). c ∷ lower (lower bs)) (lowercase-lowercase b) ∙ ap (λ (cs : List ℕ). to_ascii_lowercase b ∷ cs) (lower-lower bs)

small_lower : (bs : List ℕ) → is_name bs ≡ true → is_small_name (lower bs) ≡ true
unfolding is_small_name
small_lower bs e =
    ap (λ (x : Bool). x && bytes_eq (lower (lower bs)) (lower bs)) (name_lower bs ∙ e) ∙ (bytes_eq-Decides (lower (lower bs)) (lower bs)).1 (lower-lower bs)

free_lower : (bs : List ℕ) → is_name bs ≡ true → is_free_name (lower bs) ≡ not (is_reserved (lower bs))
unfolding is_free_name
free_lower bs e = ap (λ (x : Bool). x && not (is_reserved (lower bs))) (small_lower bs e)

-- ---- names

other_name : (place : Place) (found : Lexeme) → (found.kind ≡ Name → ⊥) → name_of place found ≡ None
other_name place found never = by (same_kind found.kind Name) refl
  where
    by : (same : Bool) → same_kind found.kind Name ≡ same → word_if (same && is_free_name found.text) place found.text ≡ None
    by true e = absurd (never (same_kind_true found.kind Name e))
    by false e = refl

module _ (old new : Lexer) (bytes : List ℕ) (place : Place) where
  name_says : is_name bytes ≡ true → name_of place (lexeme Name (lower bytes)) ≡ word_if (not (is_reserved (lower bytes))) place (lower bytes)
  name_says token = ap (λ (good : Bool). word_if good place (lower bytes)) (free_lower bytes token)

  pub name_read : (w : Word) → is_name bytes ≡ true → TakesAt old new (lexeme Name (lower bytes)) place → w ≡ record { text = lower bytes; place = place } → is_reserved w.text ≡ false → name (items_left old) ≡ Ok (w, items_left new)
  unfolding name
  name_read w token takes is free =
      token_taken name_of old new (lexeme Name (lower bytes)) place w takes
      (name_says token ∙ ap (λ (r : Bool). word_if (not r) place (lower bytes)) (ap (λ (v : Word). is_reserved v.text) (sym is) ∙ free) ∙ ap (λ (v : Word). Some v) (sym is))

  pub name_refused : (w : Word) → is_name bytes ≡ true → TakesAt old new (lexeme Name (lower bytes)) place → w ≡ record { text = lower bytes; place = place } → is_reserved w.text ≡ true → name (items_left old) ≡ Err (items_left old)
  unfolding name
  name_refused w token takes is reserved =
      token_refused name_of old new (lexeme Name (lower bytes)) place takes
      (name_says token ∙ ap (λ (r : Bool). word_if (not r) place (lower bytes)) (ap (λ (v : Word). is_reserved v.text) (sym is) ∙ reserved))

pub name_missing : (old new : Lexer) → Leaves old new (λ found. found.kind ≡ Name) → name (items_left old) ≡ Err (items_left new)
unfolding name
name_missing old new leaves = token_missing name_of old new (λ found. found.kind ≡ Name) other_name leaves

-- ---- variables and keywords

abbrev after_if : Kind → ℕ → Place → Lexeme → Option Word
after_if kind byte place found = cond (same_kind found.kind kind) (word_after byte place found.text) None

other_kind : (kind : Kind) (byte : ℕ) (place : Place) (found : Lexeme) → (found.kind ≡ kind → ⊥) → after_if kind byte place found ≡ None
other_kind kind byte place found never = by (same_kind found.kind kind) refl
  where
    by : (same : Bool) → same_kind found.kind kind ≡ same → cond same (word_after byte place found.text) None ≡ None
    by true e = absurd (never (same_kind_true found.kind kind e))
    by false e = refl

abbrev IsNameText : List ℕ → Type 0
IsNameText text = is_name text ≡ true

-- the bytes after the first
abbrev pub after_first : List ℕ → List ℕ
after_first bytes = slice_range bytes 1 (length bytes)

after_first_is : (b : ℕ) (bytes : List ℕ) → after_first (b ∷ bytes) ≡ bytes
after_first_is b bytes = take_rest (b ∷ bytes) 1

pub some_byte : (byte : ℕ) (bytes : List ℕ) → Follows byte IsNameText bytes → 1 ≤ length bytes
some_byte byte bytes follows = omega (arith, ap length follows.text_is)

variable_says : (bytes : List ℕ) (place : Place) → Follows 63 IsNameText bytes → variable_of place (lexeme Variable (lower bytes)) ≡ Some (record { text = lower (after_first bytes); place = place })
variable_says bytes place follows =
    subst (λ (text : List ℕ). variable_of place (lexeme Variable (lower text)) ≡ Some (record { text = lower (after_first text); place = place })) (sym follows.text_is)
    (ap (λ (good : Bool). word_if good place (lower follows.rest)) (small_lower follows.rest follows.holds) ∙ ap (λ (text : List ℕ). Some (record { text = lower text; place = place })) (sym (after_first_is 63 follows.rest)))

requirement_says : (bytes : List ℕ) (place : Place) → Follows 58 IsNameText bytes → requirement_of place (lexeme Keyword (lower bytes)) ≡ Some (record { text = lower (after_first bytes); place = place })
requirement_says bytes place follows =
    subst (λ (text : List ℕ). requirement_of place (lexeme Keyword (lower text)) ≡ Some (record { text = lower (after_first text); place = place })) (sym follows.text_is)
    (ap (λ (good : Bool). word_if good place (lower follows.rest)) (small_lower follows.rest follows.holds) ∙ ap (λ (text : List ℕ). Some (record { text = lower text; place = place })) (sym (after_first_is 58 follows.rest)))

module _ (old new : Lexer) (bytes : List ℕ) (place : Place) (w : Word) (is : w ≡ record { text = lower (after_first bytes); place = place }) where
  pub variable_read : Follows 63 IsNameText bytes → TakesAt old new (lexeme Variable (lower bytes)) place → variable (items_left old) ≡ Ok (w, items_left new)
  unfolding variable
  variable_read follows takes = token_taken variable_of old new (lexeme Variable (lower bytes)) place w takes (variable_says bytes place follows ∙ ap (λ (v : Word). Some v) (sym is))

  pub requirement_read : Follows 58 IsNameText bytes → TakesAt old new (lexeme Keyword (lower bytes)) place → requirement (items_left old) ≡ Ok (w, items_left new)
  unfolding requirement
  requirement_read follows takes = token_taken requirement_of old new (lexeme Keyword (lower bytes)) place w takes (requirement_says bytes place follows ∙ ap (λ (v : Word). Some v) (sym is))

  pub identifier_variable : Follows 63 IsNameText bytes → TakesAt old new (lexeme Variable (lower bytes)) place → identifier (items_left old) ≡ Ok (ident.Variable w, items_left new)
  unfolding identifier
  identifier_variable follows takes =
      first_by variable_of (λ v. made (λ (u : Unit {0}). ident.Variable v) (pure tt)) (made (λ v. ident.Name v) name) old new (lexeme Variable (lower bytes)) place w takes
      (variable_says bytes place follows ∙ ap (λ (v : Word). Some v) (sym is))

module _ (old new : Lexer) where
  pub variable_missing : Leaves old new (λ found. found.kind ≡ Variable) → variable (items_left old) ≡ Err (items_left new)
  unfolding variable
  variable_missing leaves = token_missing variable_of old new (λ found. found.kind ≡ Variable) (other_kind Variable 63) leaves

  pub requirement_missing : Leaves old new (λ found. found.kind ≡ Keyword) → requirement (items_left old) ≡ Err (items_left new)
  unfolding requirement
  requirement_missing leaves = token_missing requirement_of old new (λ found. found.kind ≡ Keyword) (other_kind Keyword 58) leaves

  name_nothing : name [] ≡ Err []
  unfolding name
  name_nothing = token_nothing name_of

  pub identifier_name : Leaves old new (λ found. found.kind ≡ Variable) → identifier (items_left old) ≡ made (λ v. ident.Name v) name (items_left new)
  unfolding identifier
  identifier_name leaves =
      second_by variable_of (λ v. made (λ (u : Unit {0}). ident.Variable v) (pure tt)) (made (λ v. ident.Name v) name) old new (λ found. found.kind ≡ Variable) (other_kind Variable 63)
      (made_refuses (λ v. ident.Name v) name [] name_nothing) leaves

-- a value that is made, or no memory for it
pub gives_made : {A : Type 0} (rest : List Item) (read : Outcome A) (r : Result A ReadFault) {v : A} → ((a : A) → a ≡ v → read ≡ Ok (a, rest)) → IfOk r (λ a. a ≡ v) → IfErr r (λ fault. fault ≡ Memory) → Gives (λ a. a) rest r read
gives_made rest read (Ok a) go is memory = go a is
gives_made rest read (Err Next) go is memory = absurd cc
gives_made rest read (Err Memory) go is memory = tt

-- where a value stops, so does what is made of it
pub made_stops : {A B : Type 0} (make : A → B) (fault : ReadFault) (rest : List Item) (x : Outcome A) (total : Outcome B) → total ≡ and_then x (λ a last. Ok (make a, last)) → Stops rest fault x → Stops rest fault total
made_stops make Next rest x total is stops = is ∙ ap (λ (y : Outcome _). and_then y (λ a last. Ok (make a, last))) stops
made_stops make Memory rest x total is stops = tt
