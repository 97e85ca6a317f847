-- What a lexer takes, and what it leaves, is what a reader of items reads, and refuses.
use Rattle.std.proofs.Common.{◌≡◌, ℕ, ◌<◌, Bool, true, false, cond, List, [], ◌∷◌, ◌++◌, length, Option, None, Some, Ok, Err, refl, sym, ap, ◌∙◌, append_assoc}
use Rattle.std.proofs.lemmas.List.{append-nil}
use Rattle.np_lex.specs.declared.reading.Lexer.{Lexer}
use Rattle.np_lex.specs.declared.token.Token.{Token}
use Rattle.np_lex.specs.declared.token.BadByte.{BadByte}
use Rattle.np_lex.specs.declared.token.Kind.TheVariants.{Number}
use Rattle.np_lex.specs.Tokens.{Lexeme, Piece, word, bad, end, Item, right, numeral}
use Rattle.np_lex.specs.Lexers.{items_left, GivesToken, FindsEnd, FindsBadByte, Takes, Leaves}
use Rattle.np_read.specs.declared.fault.ReadFault.{ReadFault}
use Rattle.np_read.specs.declared.fault.ReadFault.TheVariants.{Next, Memory}
use Rattle.np_read.specs.Same.{same_kind}
use Rattle.np_read.specs.ItemReaders.{Outcome, Reader, and_then, pure, refuse, chosen, says, of_number, expect, number_by, at_end, either, further, row}
use Rattle.np_read.specs.ItemAnswers.{Stops}
use Rattle.np_read.proofs.Same.{same_kind_true}
use Rattle.np_read.proofs.Good.{Starting, is_shorter}
use Rattle.np_read.proofs.GoodParts.{row_at}
use Rattle.np_read.proofs.ItemChoices.{expect_taken, expect_refused, expect_nothing, either_taken, either_other}

-- ---- one lexeme

pub is_taken : (old new : Lexer) (lexeme : Lexeme) → Takes old new lexeme → expect lexeme (items_left old) ≡ Ok (tt, items_left new)
is_taken old new lexeme takes = ap (expect lexeme) takes.items ∙ expect_taken lexeme (record { piece = word lexeme; place = takes.place }) (items_left new) refl

-- the first of the items isn't such a lexeme
abbrev pub NotFirst : (Lexeme → Type 0) → List Item → Type 0
NotFirst P items = (item : Item) (others : List Item) (lexeme : Lexeme) → items ≡ item ∷ others → item.piece ≡ word lexeme → P lexeme → ⊥

pub not_first : (old new : Lexer) (P : Lexeme → Type 0) → Leaves old new P → NotFirst P (items_left old)
not_first old new P leaves item others lexeme e is holds =
    leaves.none lexeme item.place others (e ∙ ap (λ (p : Piece). (record { piece = p; place = item.place }) ∷ others) is) holds

refused_by : (lexeme : Lexeme) (items : List Item) → NotFirst (λ found. found ≡ lexeme) items → expect lexeme items ≡ Err items
refused_by lexeme [] never = expect_nothing lexeme
refused_by lexeme (item ∷ items) never = expect_refused lexeme item items (λ is. never item items lexeme refl is refl)

-- where nothing was taken, the items are the same
pub stays : (old new : Lexer) (P : Lexeme → Type 0) → Leaves old new P → items_left old ≡ items_left new
stays old new P leaves = ap items_left (sym leaves.stays)

pub is_left : (old new : Lexer) (lexeme : Lexeme) → Leaves old new (λ found. found ≡ lexeme) → expect lexeme (items_left old) ≡ Err (items_left new)
is_left old new lexeme leaves =
    refused_by lexeme (items_left old) (not_first old new (λ found. found ≡ lexeme) leaves) ∙ ap (λ (items : List Item). Err items) (stays old new (λ found. found ≡ lexeme) leaves)

-- no number is a number of this text
pub no_numeral : (old new : Lexer) (text : List ℕ) → Leaves old new (λ found. found.kind ≡ Number) → expect (numeral text) (items_left old) ≡ Err (items_left new)
no_numeral old new text leaves =
    refused_by (numeral text) (items_left old) (λ item others lexeme e is same. not_first old new (λ found. found.kind ≡ Number) leaves item others lexeme e is (ap (λ (l : Lexeme). l.kind) same))
    ∙ ap (λ (items : List Item). Err items) (stays old new (λ found. found.kind ≡ Number) leaves)

abbrev text_in : Piece → List ℕ
text_in (word lexeme) = lexeme.text
text_in bad = []
text_in end = []

-- another text than the one that was taken is refused
pub other_text : (old new : Lexer) (found text : List ℕ) → Takes old new (numeral found) → (found ≡ text → ⊥) → expect (numeral text) (items_left old) ≡ Err (items_left old)
other_text old new found text takes other =
    let first : Item = record { piece = word (numeral found); place = takes.place } in
    ap (expect (numeral text)) takes.items ∙ expect_refused (numeral text) first (items_left new) (λ is. other (ap text_in is))
    ∙ ap (λ (items : List Item). Err items) (sym takes.items)

-- ---- the end

pub is_ended : (old new : Lexer) → FindsEnd old new → at_end (items_left old) ≡ Ok (tt, [])
unfolding at_end
is_ended old new finds = ap at_end finds.items

pub is_before_token : (old new : Lexer) (token : Token) → GivesToken old new token → at_end (items_left old) ≡ Err (items_left old)
unfolding at_end
is_before_token old new token gives = ap at_end gives.items ∙ ap (λ (items : List Item). Err items) (sym gives.items)

pub is_before_bad_byte : (old new : Lexer) (error : BadByte) → FindsBadByte old new error → at_end (items_left old) ≡ Err (items_left old)
unfolding at_end
is_before_bad_byte old new error finds = ap at_end finds.items ∙ ap (λ (items : List Item). Err items) (sym finds.items)

-- ---- a number by its value

module _ {A : Type 0} (value : List ℕ → Option A) (old new : Lexer) where
  pub number_taken : (text : List ℕ) (a : A) → Takes old new (numeral text) → value text ≡ Some a → number_by value (items_left old) ≡ Ok (a, items_left new)
  unfolding number_by
  number_taken text a takes is =
      ap (number_by value) takes.items
      ∙ ap (λ (o : Option A). chosen o pure (refuse ((record { piece = word (numeral text); place = takes.place }) ∷ items_left new)) (items_left new)) is

  pub number_refused : (text : List ℕ) → Takes old new (numeral text) → value text ≡ None → number_by value (items_left old) ≡ Err (items_left old)
  unfolding number_by
  number_refused text takes is =
      ap (number_by value) takes.items
      ∙ ap (λ (o : Option A). chosen o pure (refuse ((record { piece = word (numeral text); place = takes.place }) ∷ items_left new)) (items_left new)) is
      ∙ ap (λ (items : List Item). Err items) (sym takes.items)

  other_kind : (found : Lexeme) (same : Bool) → same_kind found.kind Number ≡ same → (found.kind ≡ Number → ⊥) → cond same (value found.text) None ≡ None
  other_kind found true e never = absurd (never (same_kind_true found.kind Number e))
  other_kind found false e never = refl

  none_said : (piece : Piece) → ((lexeme : Lexeme) → piece ≡ word lexeme → lexeme.kind ≡ Number → ⊥) → says (of_number value) piece ≡ None
  none_said (word found) never = other_kind found (same_kind found.kind Number) refl (never found refl)
  none_said bad never = refl
  none_said end never = refl

  missing_by : (items : List Item) → NotFirst (λ found. found.kind ≡ Number) items → number_by value items ≡ Err items
  unfolding number_by
  missing_by [] never = refl
  missing_by (item ∷ items) never =
      ap (λ (o : Option A). chosen o pure (refuse (item ∷ items)) items) (none_said item.piece (λ lexeme is number. never item items lexeme refl is number))

  pub number_missing : Leaves old new (λ found. found.kind ≡ Number) → number_by value (items_left old) ≡ Err (items_left new)
  number_missing leaves =
      missing_by (items_left old) (not_first old new (λ found. found.kind ≡ Number) leaves)
      ∙ ap (λ (items : List Item). Err items) (stays old new (λ found. found.kind ≡ Number) leaves)

-- ---- a choice

module _ {A : Type 0} (lexeme : Lexeme) (first second : Reader A) (old new : Lexer) where
  pub first_taken : Takes old new lexeme → either lexeme first second (items_left old) ≡ first (items_left new)
  first_taken takes =
      ap (either lexeme first second) takes.items ∙ either_taken lexeme first second (record { piece = word lexeme; place = takes.place }) (items_left new) refl

  second_by : second [] ≡ Err [] → (items : List Item) → NotFirst (λ found. found ≡ lexeme) items → either lexeme first second items ≡ second items
  unfolding either
  second_by nothing [] never = sym nothing
  second_by nothing (item ∷ items) never = either_other lexeme first second item items (λ is. never item items lexeme refl is refl)

  pub second_taken : second [] ≡ Err [] → Leaves old new (λ found. found ≡ lexeme) → either lexeme first second (items_left old) ≡ second (items_left new)
  second_taken nothing leaves =
      second_by nothing (items_left old) (not_first old new (λ found. found ≡ lexeme) leaves) ∙ ap second (stays old new (λ found. found ≡ lexeme) leaves)

-- ---- a loop that reads a row: what it has so far, before what is still read

abbrev pub with_front : {A : Type 0} → List A → Outcome (List A) → Outcome (List A)
with_front front x = and_then x (λ more rest. Ok (front ++ more, rest))

front_more : {A : Type 0} (front : List A) (a : A) (x : Outcome (List A)) → with_front front (and_then x (λ more rest. Ok (a ∷ more, rest))) ≡ with_front (front ++ a ∷ []) x
front_more {A = A} front a (Ok x) = ap (λ (xs : List A). Ok (xs, x.1)) (sym (append_assoc front (a ∷ []) x.0))
front_more front a (Err r) = refl

module _ {A : Type 0} (p : Reader A) (starting : Starting p) where
  abbrev others_of : A → Reader (List A)
  others_of a rest = and_then (row p rest) (λ more last. Ok (a ∷ more, last))

  further_nothing : further p (row p) [] ≡ Err []
  further_nothing = ap (λ (x : Outcome A). and_then x others_of) (starting 0).tries.nothing

  -- where no bracket closes it
  row_open : (old tried : Lexer) → Leaves old tried (λ found. found ≡ right) → row p (items_left old) ≡ and_then (p (items_left tried)) others_of
  row_open old tried leaves = row_at p starting (items_left old) ∙ second_taken right (pure []) (further p (row p)) old tried further_nothing leaves

  pub row_goes_on : (front : List A) (old tried next : Lexer) (a : A) (total : Outcome (List A)) → Leaves old tried (λ found. found ≡ right) → p (items_left tried) ≡ Ok (a, items_left next) → with_front front (row p (items_left old)) ≡ total → with_front (front ++ a ∷ []) (row p (items_left next)) ≡ total
  row_goes_on front old tried next a total leaves e so_far =
      sym (front_more front a (row p (items_left next))) ∙ ap (with_front front) (sym (row_open old tried leaves ∙ ap (λ (x : Outcome A). and_then x others_of) e)) ∙ so_far

  pub row_stops : (fault : ReadFault) (front : List A) (old tried : Lexer) (rest : List Item) (total : Outcome (List A)) → Leaves old tried (λ found. found ≡ right) → Stops rest fault (p (items_left tried)) → with_front front (row p (items_left old)) ≡ total → Stops rest fault total
  row_stops Next front old tried rest total leaves e so_far =
      sym so_far ∙ ap (with_front front) (row_open old tried leaves ∙ ap (λ (x : Outcome A). and_then x others_of) e)
  row_stops Memory front old tried rest total leaves e so_far = tt

  pub row_done : (front : List A) (old new : Lexer) (total : Outcome (List A)) → Takes old new right → with_front front (row p (items_left old)) ≡ total → total ≡ Ok (front, items_left new)
  row_done front old new total takes so_far =
      sym so_far ∙ ap (with_front front) (row_at p starting (items_left old) ∙ first_taken right (pure []) (further p (row p)) old new takes)
      ∙ ap (λ (xs : List A). Ok (xs, items_left new)) (append-nil front)

  pub row_shorter : (old tried next : Lexer) (a : A) → Leaves old tried (λ found. found ≡ right) → p (items_left tried) ≡ Ok (a, items_left next) → length (items_left next) < length (items_left old)
  row_shorter old tried next a leaves e =
      is_shorter p starting (items_left old) a (items_left next) (ap p (stays old tried (λ found. found ≡ right) leaves) ∙ e)
